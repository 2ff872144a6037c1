-- A clear frame: what reading one gives; and reading what was written without a key gives header and payload back, where the
-- security bit is off.
-- Assumes nothing.
use Rattle.std.specs.Prelude.{None}
use mathlib.Core.Path.{◌≡◌, refl, sym, ap, ◌∙◌}
use mathlib.Core.Bool.{Bool, false, cond, not, ◌&&◌}
use mathlib.Core.List.{List, ◌++◌}
use Prim.Native.Nat.{ℕ, ◌+◌, ◌-◌, ◌≤◌}
use native.Mathlib.Nat.{add-zero}
use native.Mathlib.Omega.{arith}
use lib.ListN.{length, drop, length-append}
use lib.Seq.{drop_at}
use lib.Dec.{ltb}
use borrow.Author.Tests.{ltb-false, le-ltb}
use Rattle.octets.proofs.Conditions.{accepted}
use Rattle.octets.specs.Writing.{written_bytes}
use Rattle.octets.proofs.Writing.{written_number, bytes_written_lem}
use Rattle.header.specs.declared.{control.NwkFrameControl.NwkFrameControl, nwk.NwkHeader.NwkHeader}
use Rattle.header.specs.Reading.{HeaderRead, read_header}
use Rattle.header.specs.Same.{SameHeader, cleared, HeaderFits}
use Rattle.header.specs.Writing.{header_bytes}
use Rattle.header.proofs.ReadBack.{read_back, same_cleared}
use Rattle.frame.specs.Reading.{FrameRead, secured, aux_if, aux_behind, frame_refused, frame_given, frame_number, frame_by, read_frame}
use Rattle.frame.specs.Writing.{frame_bytes, frame_write_refusal, write_frame}
use Rattle.frame.specs.Opening.{is_sealed}
use Rattle.frame.proofs.Accepted.{ClearWritable, clear_writable, frame_refusal_lem, Readable, readable, read_accepts, counts}
use Rattle.header.specs.Auxiliary.{AuxRead}

-- the frame whose header has been read, the security bit being off
clear_frame : (f : List ℕ) (h : HeaderRead) (a : AuxRead) → secured h ≡ false → h.refusal ≡ 0 → length f - h.length ≤ 108
    → frame_by f h a ≡ record { refusal = 0; length = h.length; header = h.header; aux = None }
unfolding frame_by
clear_frame f h a s e short =
    let able : Readable f h a =
    record {
      header = e;
      aux = ap (λ (b : Bool). cond b a.refusal 0) s;
      payload = ap (λ (b : Bool). not b && ltb 108 (length f - h.length)) s ∙ le-ltb 108 (length f - h.length) short;
    } in
    accepted (frame_number f h a) (frame_given h a) _ (read_accepts f h a able)
    ∙ (λ i. record { refusal = 0; length = h.length + cond (s i) a.length 0; header = h.header; aux = aux_if (s i) a.aux })
    ∙ (λ i. record { refusal = 0; length = add-zero h.length i; header = h.header; aux = None })

-- what reading a clear frame gives, by its parts
pub record ClearFacts (f : List ℕ) : Type 0 where
  pub header : (read_header f).refusal ≡ 0
  pub read : read_frame f ≡ record { refusal = 0; length = (read_header f).length; header = (read_header f).header; aux = None }

pub clear_facts : (f : List ℕ) → (read_frame f).refusal ≡ 0 → is_sealed (read_frame f).header ≡ false → ClearFacts f
unfolding read_frame frame_by
clear_facts f e off =
    let h = read_header f in
    let a = aux_behind f h in
    let z : frame_number f h a ≡ 0 = sym (frame_refusal_lem f h a) ∙ e in
    let s : secured h ≡ false = rw (accepted (frame_number f h a) (frame_given h a) (frame_refused (frame_number f h a)) z) at off in
    let r = readable f h a z in
    record { header = r.header; read = clear_frame f h a s r.header (ltb-false 108 (length f - h.length) (sym (counts (not (secured h)) _ (ap not s)) ∙ r.payload)) }

-- what reading a clear frame gives of a header h and a payload p
pub record ReadBack (h : NwkHeader) (p f : List ℕ) (r : FrameRead) : Type 0 where
  pub accepted : r.refusal ≡ 0
  pub header : SameHeader h r.header
  pub auxiliary : r.aux ≡ None
  pub payload : drop r.length f ≡ p

clear_read : (h : NwkHeader) (p : List ℕ) (room : ℕ) → HeaderFits h → h.frame_control.security ≡ false → ClearWritable h (length p) room
    → ReadBack h p (frame_bytes h p) (read_frame (frame_bytes h p))
unfolding frame_bytes read_frame
clear_read h p room fits off w =
    let whole : length (header_bytes h ++ p) ≤ 118 = rw (length-append (header_bytes h) p) w.whole in
    let header : read_header (header_bytes h ++ p) ≡ record { refusal = 0; length = length (header_bytes h); header = cleared h } =
    read_back h p fits w.fields whole in
    let size : length (header_bytes h ++ p) - length (header_bytes h) ≤ 108 = omega (arith, length-append (header_bytes h) p, w.payload) in
    let run : read_frame (header_bytes h ++ p) ≡ record { refusal = 0; length = length (header_bytes h); header = cleared h; aux = None } =
    ap (λ (k : HeaderRead). frame_by (header_bytes h ++ p) k (aux_behind (header_bytes h ++ p) k)) header
    ∙ clear_frame (header_bytes h ++ p) _ _ (ap (λ (k : NwkFrameControl). k.security) (sym (same_cleared h w.fields.good).control) ∙ off) refl size in
    record {
      accepted = ap (λ (r : FrameRead). r.refusal) run;
      header = rw run (same_cleared h w.fields.good);
      auxiliary = ap (λ (r : FrameRead). r.aux) run;
      payload = ap (λ (r : FrameRead). drop r.length (header_bytes h ++ p)) run ∙ drop_at (header_bytes h) p (length (header_bytes h)) refl;
    }

pub clear_back : (h : NwkHeader) (p out : List ℕ) → HeaderFits h → (write_frame h p out).answer.refusal ≡ 0
    → h.frame_control.security ≡ false
    → ReadBack h p (written_bytes (write_frame h p out)) (read_frame (written_bytes (write_frame h p out)))
unfolding write_frame
clear_back h p out fits ok off =
    let e : frame_write_refusal h (length p) (length out) ≡ 0 = sym (written_number _ _ out) ∙ ok in
    rw (bytes_written_lem _ (frame_bytes h p) out e) (clear_read h p (length out) fits off (clear_writable h (length p) (length out) e))
