-- How keys compare: among any two keys, and across the two logs.
use Rattle.std.specs.Prelude.{◌≡◌, ℕ, ◌≤◌, Bool, true, false}
use Rattle.std.specs.declared.cmp.Ordering.TheVariants.{Less, Equal, Greater}
use Rattle.std.specs.declared.cmp.Ordering.{Ordering}

-- before, same and after rise in this sequence
abbrev pub rank : Ordering → ℕ
rank Less = 0
rank Equal = 1
rank Greater = 2

-- the answer for the keys swapped
abbrev pub turned : Ordering → Ordering
turned Less = Greater
turned Equal = Equal
turned Greater = Less

abbrev pub is_same : Ordering → Bool
is_same Less = false
is_same Equal = true
is_same Greater = false

abbrev pub is_after : Ordering → Bool
is_after Less = false
is_after Equal = false
is_after Greater = true

-- a is not after b
abbrev pub Rises : {K : Type 0} → (K → K → Ordering) → K → K → Type 0
Rises within a b = rank (within a b) ≤ 1

-- What every order of keys keeps. `within` compares any two keys, `across` a streamed key a with a buffered key b.
pub record Laws {K : Type 0} (within across : K → K → Ordering) : Type 0 where
  -- within turns round when its keys are swapped
  pub turns_round : (a b : K) → within b a ≡ turned (within a b)
  -- if neither a is after b nor b after c, a is not after c
  pub passes_on : (a b c : K) → Rises within a b → Rises within b c → Rises within a c
  -- a later streamed key compares no lower, and a later buffered key no higher
  pub rises_streamed : (a a' b : K) → Rises within a a' → rank (across a b) ≤ rank (across a' b)
  pub falls_buffered : (a b b' : K) → Rises within b b' → rank (across a b') ≤ rank (across a b)
  -- keys that are same across are same within
  pub same_is_same : (a b : K) → across a b ≡ Equal → within a b ≡ Equal
