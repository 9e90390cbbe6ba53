-- What a take of a batch that fits comes to, and where the rows are changed one by one after it.
use Rattle.std.proofs.Common.{◌≡◌, ℕ, ◌≤◌, Bool, true, false, leb, List, [], ◌∷◌, ◌++◌, map, length, take, drop, Some, None, Option, Ok, Err, Result, sym, refl, ap, ◌∙◌, le-leb}
use Rattle.std.proofs.lemmas.List.{take_at, drop_at, length-map}
use Rattle.sources.specs.declared.fault.SourceFault.{SourceFault}
use Rattle.sources.specs.declared.source.TakeRefusal.{TakeRefusal}
use Rattle.sources.specs.Meaning.{Closing, take_of, upcoming}

module _ {A : Type 0} (batches : List (List A)) (close : Closing) (memory : List A) where
  pub takes_first : (batch : List A) (left : List (List A)) → batches ≡ batch ∷ left → length batch ≤ length memory
      → take_of batches close memory ≡ record { answer = Ok (Some (length batch)); left = left; memory = batch ++ drop (length batch) memory }
  takes_first batch left e h = rw (e, le-leb (length batch) (length memory) h)

-- the memory after a take that answered so, with the rows that were written changed by f
abbrev pub changed : {A : Type 0} → (A → A) → Result (Option ℕ) TakeRefusal → List A → List A
changed f (Ok (Some n)) memory = map f (take n memory) ++ drop n memory
changed f (Ok None) memory = memory
changed f (Err refusal) memory = memory

module _ {A : Type 0} (f : A → A) where
  -- to take and then change the rows that were written is to take from batches whose rows are changed
  pub takes_changed : (batches : List (List A)) (close : Closing) (memory : List A)
      → take_of (map (map f) batches) close memory
      ≡ (let took = take_of batches close memory in record { answer = took.answer; left = map (map f) took.left; memory = changed f took.answer took.memory })
  takes_changed [] (Ok end) memory = refl
  takes_changed [] (Err fault) memory = refl
  takes_changed (batch ∷ left) close memory = go (leb (length batch) (length memory)) refl
    where
      go : (t : Bool) → leb (length batch) (length memory) ≡ t
          → take_of (map (map f) (batch ∷ left)) close memory
          ≡ (let took = take_of (batch ∷ left) close memory in record { answer = took.answer; left = map (map f) took.left; memory = changed f took.answer took.memory })
      go true e = rw (length-map batch f, e, take_at batch (drop (length batch) memory) (length batch) refl, drop_at batch (drop (length batch) memory) (length batch) refl)
      go false e = rw (length-map batch f, e)

  -- nor does that change what comes next
  pub upcoming_changed : (batches : List (List A)) (close : Closing) → upcoming batches close ≡ upcoming (map (map f) batches) close
  upcoming_changed [] close = refl
  upcoming_changed (batch ∷ left) close = ap (λ n. let r : Result (Option ℕ) SourceFault = Ok (Some n) in r) (sym (length-map batch f))

  -- so a layer that changes the rows of each batch takes as its own meaning has it
  pub passes : (batches : List (List A)) (close : Closing) (memory : List A) (answer : Result (Option ℕ) TakeRefusal) (left : List (List A)) (after : List A)
      → (let took = take_of batches close memory in (answer ≡ took.answer) × (left ≡ took.left) × (after ≡ took.memory))
      → (let took = take_of (map (map f) batches) close memory in (answer ≡ took.answer) × (map (map f) left ≡ took.left) × (changed f answer after ≡ took.memory))
  passes batches close memory answer left after below =
      let same = sym (takes_changed batches close memory) in (
        below.0 ∙ ap (λ t. t.answer) same,
        ap (map (map f)) below.1 ∙ ap (λ t. t.left) same,
        ap (λ r. changed f r after) below.0 ∙ ap (changed f (take_of batches close memory).answer) below.2 ∙ ap (λ t. t.memory) same,
      )
