-- What the calls of a source answer and leave, given the batches that it has left and how they close.
use Rattle.std.specs.Prelude.{ℕ, cond, List, [], ◌∷◌, ◌++◌, length, drop, Some, None, Option, Ok, Err, Result, nat_le}
use Rattle.sources.specs.declared.fault.SourceFault.{SourceFault}
use Rattle.sources.specs.declared.source.TakeRefusal.{TakeRefusal}
use Rattle.sources.specs.declared.source.TakeRefusal.TheVariants.{TooShort, Fault as refused}
use Rattle.sources.specs.Faults.{number_of}

abbrev pub refusal_number : TakeRefusal → ℕ
refusal_number TooShort = 10
refusal_number (refused f) = number_of f

-- how a list of batches closes: by the end, or by a fault that stays
abbrev pub Closing : Type 0
Closing = Result (Unit {0}) SourceFault

-- what a source with no batch left answers, asked for a size or a batch
abbrev pub closed : Closing → Result (Option ℕ) SourceFault
closed (Ok end) = Ok None
closed (Err f) = Err f

abbrev pub not_taken : Closing → Result (Option ℕ) TakeRefusal
not_taken (Ok end) = Ok None
not_taken (Err f) = Err (refused f)

-- the size of the next batch, or how the list closes
abbrev pub upcoming : {A : Type 0} → List (List A) → Closing → Result (Option ℕ) SourceFault
upcoming [] close = closed close
upcoming (batch ∷ left) close = Ok (Some (length batch))

-- what a take answers, the batches then left, and what the memory then holds
pub record Took (A : Type 0) : Type 0 where
  pub answer : Result (Option ℕ) TakeRefusal
  pub left : List (List A)
  pub memory : List A

abbrev pub take_of : {A : Type 0} → List (List A) → Closing → List A → Took A
take_of [] close memory = record { answer = not_taken close; left = []; memory = memory }
take_of (batch ∷ left) close memory = cond (nat_le (length batch) (length memory))
    (record { answer = Ok (Some (length batch)); left = left; memory = batch ++ drop (length batch) memory })
    (record { answer = Err TooShort; left = batch ∷ left; memory = memory })
