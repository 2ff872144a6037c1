-- The three laws of reading and writing commands, over every command and every byte list: a typed command that writing
-- accepts reads back as itself, with its list; what was read is written and read again as the same; an unparsed command
-- is written as exactly the bytes that were read. The first is the formats' inverse law at the command's own format,
-- and the second is the first at what was read.
-- Assumes nothing.
use Rattle.std.specs.Prelude.{Option, Some, None}
use mathlib.Core.Path.{◌≡◌, refl, sym, ap, subst, ◌∙◌}
use mathlib.Core.Bool.{Bool, true, false, cond, not}
use mathlib.Core.List.{List, [], ◌∷◌, ◌++◌, append-nil}
use Prim.Native.Nat.{ℕ, ◌≤◌, ◌<◌}
use borrow.Author.Tests.{le-leb, lt-ltb, le-ltb, ltb-false, leb-true, not-false}
use lib.Dec.{ltb, leb}
use lib.ListN.{length, get_or, take}
use Rattle.octets.specs.Strings.{Below}
use Rattle.octets.specs.Refusals.{on, first_of, unless}
use Rattle.octets.proofs.Conditions.{accepted, none, none_refuse, stop, skip, skip_by, or_false}
use Rattle.octets.proofs.Writing.{write_accepted}
use Rattle.octets.proofs.Strings.{take_over}
use Rattle.commands.specs.Codes.{command_id_code, command_id_of}
use Rattle.commands.specs.Format.{Values, body_end, values, body_bytes, held_values}
use Rattle.commands.specs.Reading.{NwkCommandRead, format_of, command_of, with_lists, list_of, listed, cleared_by, cleared, body_of, typed_by, typed, unparsed, parsed, read_as, read_nothing, read_refusal, read_command}
use Rattle.commands.specs.Writing.{Wire, wire_of, wire, wire_bytes, command_bytes, over_places, misfits, field_refusal, write_refusal, write_command}
use Rattle.commands.specs.Writing.Wire.{body, raw}
use Rattle.commands.proofs.Format.{Fit, values_back, end_back}
use Rattle.commands.proofs.CodeLaws.{command_id_back}
use Rattle.commands.proofs.Commands.{WireBack, back}
use Rattle.commands.proofs.Ranges.{misfits_is}
use Rattle.commands.proofs.Lengths.{Typed, typed_short}
use Rattle.commands.proofs.Reread.{firsts_places, cleared_read, Writable, writable}
use Rattle.commands.specs.declared.{NwkCommandId.NwkCommandId, NwkCommand.NwkCommand, NwkCommandWithLists.NwkCommandWithLists, NwkCommandList.NwkCommandList}

-- ---- a typed command reads back

-- the body of an identifier with the values v means what v means, whatever follows
typed_back : (id : NwkCommandId) (v : Values) (rest : List ℕ) → Fit (format_of id) v → held_values (format_of id) v ≡ true
    → typed (command_id_code id ∷ (body_bytes (format_of id) v ++ rest)) ≡ command_of id v
unfolding typed typed_by body_of
typed_back id v rest fit ok =
    let s : List ℕ = command_id_code id ∷ (body_bytes (format_of id) v ++ rest) in
    ap (λ (k : Option NwkCommandId). typed_by k s) (command_id_back id)
    ∙ ap (λ (t : Bool). cond t (command_of id (values (format_of id) s)) None) (le-leb _ _ (end_back (format_of id) v (command_id_code id) rest fit ok))
    ∙ ap (command_of id) (values_back (format_of id) v (command_id_code id) rest fit ok)

-- no field misfits: every value fits its field
fits : (k : NwkCommandList) (id : NwkCommandId) (v : Values) → misfits k (body id v) ≡ false → held_values (format_of id) v ≡ true
unfolding misfits
fits k id v e = not-false _ (or_false (over_places k (length v.entries)) (not (held_values (format_of id) v)) e).1

wire_back : (c : NwkCommand) (f : NwkCommandWithLists) (w : Wire) (rest : List ℕ) → WireBack c f w → Typed (list_of c) → misfits (list_of c) w ≡ false
    → parsed (typed (wire_bytes w ++ rest)) (wire_bytes w ++ rest) ≡ cleared_by (list_of c) c f
unfolding wire_bytes parsed
wire_back c f (body id v) rest w t e =
    let ok : held_values (format_of id) v ≡ true = fits (list_of c) id v e in
    let s : List ℕ = command_id_code id ∷ (body_bytes (format_of id) v ++ rest) in
    ap (λ (b : Option NwkCommand). parsed b s) (typed_back id v rest w.fit ok ∙ w.command)
    ∙ w.list s (values_back (format_of id) v (command_id_code id) rest w.fit ok)
wire_back c f (raw bs) rest w t e = absurd (subst (λ (d : NwkCommand). Typed (list_of d)) w t)

pub read_accepts : (s : List ℕ) → length s ≤ 108 → read_command s ≡ read_as (parsed (typed s) s)
unfolding read_command read_refusal
read_accepts s h = accepted _ (read_as (parsed (typed s) s)) _ (none_refuse _ (le-ltb 108 (length s) h, tt))

pub read_refuses : (s : List ℕ) → 108 < length s → read_command s ≡ read_nothing 12
unfolding read_command read_refusal unless
read_refuses s h = rw (stop 12 (ltb 108 (length s)) [] (lt-ltb 108 (length s) h)) refl

-- bytes after a typed command are dropped
pub read_trailing : (f : NwkCommandWithLists) (rest : List ℕ) → Typed (list_of f.command) → misfits (list_of f.command) (wire f) ≡ false
    → length (command_bytes f ++ rest) ≤ 108 → read_command (command_bytes f ++ rest) ≡ read_as (cleared f)
unfolding command_bytes wire cleared
read_trailing f rest t e h =
    read_accepts (command_bytes f ++ rest) h ∙ ap read_as (wire_back f.command f (wire_of f.command f) rest (back f.command f) t e)

-- writing accepts
pub record Accepted (f : NwkCommandWithLists) (room : ℕ) : Type 0 where
  pub fields_fit : misfits (list_of f.command) (wire f) ≡ false
  pub short : length (command_bytes f) ≤ 108
  pub room_enough : length (command_bytes f) ≤ room

pub accepts : (f : NwkCommandWithLists) (room : ℕ) → write_refusal f room ≡ 0 → Accepted f room
unfolding field_refusal write_refusal
accepts f room e =
    let h = none _ e in
    record { fields_fit = (none _ h.0).0; short = ltb-false _ _ h.1.0; room_enough = ltb-false _ _ h.1.1.0 }

-- every typed command that writing accepts reads back from its bytes as the same command with the same list
pub write_read : (f : NwkCommandWithLists) (room : ℕ) → Typed (list_of f.command) → write_refusal f room ≡ 0
    → read_command (command_bytes f) ≡ read_as (cleared f)
write_read f room t e =
    let a : Accepted f room = accepts f room e in
    let n : command_bytes f ++ [] ≡ command_bytes f = append-nil (command_bytes f) in
    ap read_command (sym n)
    ∙ read_trailing f [] t a.fields_fit (subst (λ (l : List ℕ). length l ≤ 108) (sym n) a.short)

-- the bytes written are the output's first ones
pub written_bytes_lem : (f : NwkCommandWithLists) (o : List ℕ) → write_refusal f (length o) ≡ 0
    → take (write_command f o).answer.length (write_command f o).out ≡ command_bytes f
unfolding write_command
written_bytes_lem f o e = rw (← write_accepted (write_refusal f (length o)) _ (command_bytes f) o refl e) (take_over o (command_bytes f))

-- ---- an unparsed command is its bytes

pub unparsed_bytes : (s : List ℕ) → command_bytes (unparsed s) ≡ s
unfolding command_bytes wire wire_of wire_bytes unparsed with_lists
unparsed_bytes s = firsts_places 0 108 s

-- whatever was read and not typed is written as exactly the bytes that were read
pub read_unparsed : (s : List ℕ) → typed s ≡ None → length s ≤ 108 → command_bytes (read_command s).command ≡ s
unfolding parsed
read_unparsed s e h =
    ap (λ (r : NwkCommandRead). command_bytes r.command) (read_accepts s h)
    ∙ ap (λ (b : Option NwkCommand). command_bytes (parsed b s)) e ∙ unparsed_bytes s

-- ---- what was read is read again

-- a command that was read can be written
body_writable : (id : NwkCommandId) (s : List ℕ) (t : Bool) → leb (body_end (format_of id) s) (length s) ≡ t → Below 256 s → length s ≤ 108
    → Writable s (cond t (command_of id (values (format_of id) s)) None)
body_writable id s true e b short = writable id s b short (leb-true _ _ e)
body_writable id s false e b short = tt

id_writable : (k : Option NwkCommandId) (s : List ℕ) → Below 256 s → length s ≤ 108 → Writable s (typed_by k s)
unfolding typed_by body_of
id_writable (Some id) s b short = body_writable id s (leb (body_end (format_of id) s) (length s)) refl b short
id_writable None s b short = tt

pub typed_writable : (s : List ℕ) → Below 256 s → length s ≤ 108 → Writable s (typed s)
unfolding typed
typed_writable s b short = id_writable (command_id_of (get_or s 0 0)) s b short

listed_command : (k : NwkCommandList) (c : NwkCommand) (s : List ℕ) → (listed k c s).command ≡ c
unfolding listed with_lists
listed_command NwkCommandList.NoList c s = refl
listed_command NwkCommandList.Relays c s = refl
listed_command NwkCommandList.LinkStatuses c s = refl
listed_command NwkCommandList.PanIds c s = refl
listed_command NwkCommandList.PowerList c s = refl
listed_command NwkCommandList.Bytes c s = refl

-- no field of a command that was read misfits
read_fits : (c : NwkCommand) (s : List ℕ) → Writable s (Some c) → misfits (list_of c) (wire_of c (listed (list_of c) c s)) ≡ false
read_fits c s w = misfits_is c (listed (list_of c) c s) w.1 w.2.0 ∙ w.2.1

-- its bytes read as itself
listed_again : (c : NwkCommand) (s : List ℕ) → Writable s (Some c)
    → read_command (wire_bytes (wire_of c (listed (list_of c) c s))) ≡ read_as (listed (list_of c) c s)
listed_again c s w =
    let f : NwkCommandWithLists = listed (list_of c) c s in
    let bs : List ℕ = wire_bytes (wire_of c f) in
    let n : bs ++ [] ≡ bs = append-nil bs in
    let e : misfits (list_of c) (wire_of c f) ≡ false = read_fits c s w in
    read_accepts bs (typed_short c f w.0 e)
    ∙ ap read_as
    (ap (λ (l : List ℕ). parsed (typed l) l) (sym n) ∙ wire_back c f (wire_of c f) [] (back c f) w.0 e ∙ cleared_read (list_of c) c s)

-- by what the bytes hold
again : (s : List ℕ) (t : Option NwkCommand) → Writable s t → length s ≤ 108 → typed s ≡ t
    → read_command (command_bytes (parsed t s)) ≡ read_as (parsed t s)
unfolding parsed command_bytes wire
again s (Some c) w h e =
    ap (λ (d : NwkCommand). read_command (wire_bytes (wire_of d (listed (list_of c) c s)))) (listed_command (list_of c) c s) ∙ listed_again c s w
again s None w h e =
    ap read_command (unparsed_bytes s) ∙ read_accepts s h ∙ ap (λ (t : Option NwkCommand). read_as (parsed t s)) e

-- whatever bytes were read, writing the command and reading again gives the same command
pub read_write_read : (s : List ℕ) → Below 256 s → length s ≤ 108 → read_command (command_bytes (read_command s).command) ≡ read_command s
read_write_read s b h =
    let r : read_command s ≡ read_as (parsed (typed s) s) = read_accepts s h in
    ap (λ (a : NwkCommandRead). read_command (command_bytes a.command)) r
    ∙ again s (typed s) (typed_writable s b h) h refl ∙ sym r

-- ---- what was read can be written

-- the output lent to a command is too short
abbrev pub no_room : NwkCommandWithLists → ℕ → ℕ
no_room f room = first_of (on 18 (ltb room (length (command_bytes f))) ∷ [])

writes : (f : NwkCommandWithLists) (room : ℕ) → misfits (list_of f.command) (wire f) ≡ false → length (command_bytes f) ≤ 108
    → write_refusal f room ≡ no_room f room
unfolding field_refusal write_refusal
writes f room e h = skip_by _ _ (none_refuse _ (e, tt)) ∙ skip 17 _ _ (le-ltb 108 _ h)

parsed_writes : (s : List ℕ) (t : Option NwkCommand) (room : ℕ) → Writable s t → length s ≤ 108 → write_refusal (parsed t s) room ≡ no_room (parsed t s) room
unfolding parsed unparsed with_lists misfits wire wire_of command_bytes
parsed_writes s (Some c) room w h =
    let f : NwkCommandWithLists = listed (list_of c) c s in
    let same : f.command ≡ c = listed_command (list_of c) c s in
    let e : misfits (list_of c) (wire_of c f) ≡ false = read_fits c s w in
    writes f room
    (subst (λ (d : NwkCommand). misfits (list_of d) (wire_of d f) ≡ false) (sym same) e)
    (subst (λ (d : NwkCommand). length (wire_bytes (wire_of d f)) ≤ 108) (sym same) (typed_short c f w.0 e))
parsed_writes s None room w h = writes (unparsed s) room refl (subst (λ (l : List ℕ). length l ≤ 108) (sym (unparsed_bytes s)) h)

-- of what was read only the room can be missing
pub read_writes : (s : List ℕ) (room : ℕ) → Below 256 s → length s ≤ 108
    → write_refusal (read_command s).command room ≡ no_room (read_command s).command room
read_writes s room b h =
    let r : read_command s ≡ read_as (parsed (typed s) s) = read_accepts s h in
    rw r (parsed_writes s (typed s) room (typed_writable s b h) h)
