-- Refusals: an operation's conditions are one ordered list, and the first that holds gives the number. 0 is no refusal.
-- Assumes nothing.
use Rattle.std.specs.Prelude.{ℕ, zero, suc, Bool, cond, List, [], ◌∷◌, Result, Ok, Err}
use Rattle.octets.specs.declared.refusals.Refusal.{Refusal}

-- selects the answer by the refusal's number: the first where it is 0, else the second
unfoldable pub unless : {A : Type 0} → ℕ → A → A → A
unless zero accepted refused = accepted
unless (suc n) accepted refused = refused

-- an entry of the list: a number with its condition, or the number that an earlier operation gave
pub data Condition : Type 0 where
  on : ℕ → Bool → Condition
  by : ℕ → Condition

-- the first number of the list that is given, or 0
unfoldable pub first_of : List Condition → ℕ
first_of [] = 0
first_of (on n b ∷ cs) = cond b n (first_of cs)
first_of (by n ∷ cs) = unless n (first_of cs) n

-- the number of a refusal
abbrev pub number_of : Refusal → ℕ
number_of Refusal.TooLong = 1
number_of Refusal.ShortHeader = 2
number_of Refusal.FrameType = 3
number_of Refusal.Discovery = 4
number_of Refusal.DestinationIeee = 5
number_of Refusal.SourceIeee = 6
number_of Refusal.Multicast = 7
number_of Refusal.SourceRoute = 8
number_of Refusal.ShortAuxiliary = 9
number_of Refusal.ShortExtended = 10
number_of Refusal.NoKeySequence = 11
number_of Refusal.Payload = 12
number_of Refusal.Field = 13
number_of Refusal.NoAuxiliary = 14
number_of Refusal.NoIeee = 15
number_of Refusal.NoMic = 16
number_of Refusal.Length = 17
number_of Refusal.NoRoom = 18
number_of Refusal.WrongMic = 19
number_of Refusal.Burst = 20
number_of Refusal.LastCounter = 21
number_of Refusal.KeySequence = 22
number_of Refusal.FrameCounter = 23
number_of Refusal.NoPlace = 24
number_of Refusal.JournalKind = 25
number_of Refusal.CountersUsedUp = 26
number_of Refusal.NoCeiling = 27
number_of Refusal.PresenceBits = 28
number_of Refusal.Level = 29

-- the number that an answer gives: a refusal's, or 0
abbrev pub refused : {A : Type 0} → Result A Refusal → ℕ
refused (Ok a) = 0
refused (Err r) = number_of r
