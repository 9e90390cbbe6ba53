-- Logs that are read piece by piece, and turns that the rows read decide: what holds at each stage, whatever rows follow.
use Rattle.std.proofs.Common.{◌≡◌, ℕ, ◌+◌, Bool, true, false, List, [], ◌++◌, length, Ordering, Equal, sym, refl, ◌∙◌, append_assoc, append-nil, arith}
use mathlib.Core.List.Permᴰ
use mathlib.Core.List.{Permᴰ}
use mathlib.Core.Bool.{false≢true}
use Rattle.std.specs.List.{AllByRecursion}
use Rattle.std.proofs.ByRecursion.{All-weaker}
use Rattle.rows.specs.Order.{Laws}
use Rattle.merge.specs.Table.{table}
use Rattle.merge.specs.Runs.{Sorted, runs}
use Rattle.merge.specs.Path.{passed_rows, State, at, start, Turn, Ordered, to_come, turn, one_turn}
use Rattle.merge.specs.Decided.{extended, Follows, decided}
use Rattle.rows.specs.declared.record.Record.{Record}
use Rattle.merge.proofs.Perms.{same}
use Rattle.merge.proofs.Steps.{Shuns, turn_keeps}
use Rattle.merge.proofs.Counts.{left, turn_counts}
use Rattle.merge.proofs.Prefixes.{turn_alike}
use Rattle.merge.proofs.Flags.{all_back, turn_fresh}

-- The rows read of each log and whether it has ended; the records put out, those that wait; the turns made; where the path
-- stands.
pub data Stage (X : Type 0) : Type 0 where
  stage : (streamed buffered : List X) (ended_streamed ended_buffered : Bool) (out waiting : List Record) (turns : ℕ) (state : State X) → Stage X

pub data Action (X : Type 0) : Type 0 where
  read_streamed : List X → Action X
  read_buffered : List X → Action X
  take_turn : Action X

abbrev pub blank : {X : Type 0} → Stage X
blank = stage [] [] false false [] [] 0 (start [] [])

module _ {X : Type 0} (within across : X → X → Ordering) (passes : X → X → Bool) (keeps_streamed keeps_buffered : Bool) where
  abbrev pub act : Action X → Stage X → Stage X
  act (read_streamed r) (stage s b es eb out w n t) = stage (s ++ r) b es eb out w n (extended t r [])
  act (read_buffered r) (stage s b es eb out w n t) = stage s (b ++ r) es eb out w n (extended t [] r)
  act take_turn (stage s b es eb out w n t) = stage s b es eb out (w ++ (turn within across passes keeps_streamed keeps_buffered t).gives) (n + one_turn (turn within across passes keeps_streamed keeps_buffered t).passed) (turn within across passes keeps_streamed keeps_buffered t).next

  -- no row is read of a log that has ended, and a turn is taken only if the rows read decide it
  abbrev pub Allowed : Action X → Stage X → Type 0
  Allowed (read_streamed r) (stage s b es eb out w n t) = es ≡ false
  Allowed (read_buffered r) (stage s b es eb out w n t) = eb ≡ false
  Allowed take_turn (stage s b es eb out w n t) = decided within across es eb t ≡ true

-- reading in two pieces
extended_streamed : {X : Type 0} (t : State X) (r s' b' : List X) → extended (extended t r []) s' b' ≡ extended t (r ++ s') b'
extended_streamed (at p i s j b) r s' b' = rw (append_assoc s r s', append-nil b)

extended_buffered : {X : Type 0} (t : State X) (r s' b' : List X) → extended (extended t [] r) s' b' ≡ extended t s' (r ++ b')
extended_buffered (at p i s j b) r s' b' = rw (append_assoc b r b', append-nil s)

module _ {X : Type 0} (within across : X → X → Ordering) (passes : X → X → Bool) (keeps_streamed keeps_buffered : Bool) (laws : Laws within across) (only_same : (x y : X) → passes x y ≡ true → across x y ≡ Equal) where
  abbrev pub due : State X → List Record
  due = to_come passes keeps_streamed keeps_buffered

  abbrev pub goes : State X → Turn X
  goes = turn within across passes keeps_streamed keeps_buffered

  -- what holds of whole logs s and b, and of the state t over all of them that is left
  pub record Holds (s b : List X) (out w : List Record) (n : ℕ) (t : State X) : Type 0 where
    pub ordered : Ordered within t
    pub makes_up : Permᴰ (out ++ (w ++ due t)) (table passes keeps_streamed keeps_buffered s b)
    pub counts : n + left within across passes keeps_streamed keeps_buffered t ≡ length s + runs within b

  -- it holds whatever follows
  abbrev pub Good : Stage X → Type 0
  Good (stage s b es eb out w n t) = (s' b' : List X) → Follows es s' → Follows eb b' → Sorted within (s ++ s') → Sorted within (b ++ b') → Holds (s ++ s') (b ++ b') out w n (extended t s' b')

  pub good_blank : Good blank
  good_blank s' b' fs fb h k = record { ordered = (h, k); makes_up = Permᴰ.refl _; counts = omega arith }

  pub good_act : (a : Action X) (g : Stage X) → Allowed within across passes keeps_streamed keeps_buffered a g → Good g → Good (act within across passes keeps_streamed keeps_buffered a g)
  good_act (read_streamed r) (stage s b es eb out w n t) e f = λ s' b' fs fb h k.
      rw (append_assoc s r s', extended_streamed t r s' b') (f (r ++ s') b' (λ d. absurd (false≢true (sym e ∙ d))) fb (rw append_assoc at h) k)
  good_act (read_buffered r) (stage s b es eb out w n t) e f = λ s' b' fs fb h k.
      rw (append_assoc b r b', extended_buffered t r s' b') (f s' (r ++ b') fs (λ d. absurd (false≢true (sym e ∙ d))) h (rw append_assoc at k))
  good_act take_turn (stage s b es eb out w n t) e f = λ s' b' fs fb h k.
      let q = f s' b' fs fb h k in
      let d = turn_alike within across es eb passes keeps_streamed keeps_buffered s' b' fs fb t e in
      let u = rw d at (turn_keeps within across passes laws only_same keeps_streamed keeps_buffered (extended t s' b') q.ordered) in
      let v = rw d at (turn_counts within across passes keeps_streamed keeps_buffered (extended t s' b')) in
      record {
        ordered = u.ordered;
        makes_up = Permᴰ.trans (Permᴰ.append_left out (Permᴰ.trans (same (append_assoc w (goes t).gives _)) (Permᴰ.append_left w u.makes_up))) q.makes_up;
        counts = omega (arith, v, q.counts);
      }

  -- a streamed row passed shuns the buffered rows that have yet to be read
  abbrev pub FreshAt : Stage X → Type 0
  FreshAt (stage s b es eb out w n t) = (s' b' : List X) → Follows es s' → Follows eb b' → Sorted within (s ++ s') → Sorted within (b ++ b') → AllByRecursion (λ x. Shuns passes x b') (passed_rows t)

  same_passed : (t : State X) (s' b' : List X) → passed_rows (extended t s' b') ≡ passed_rows t
  same_passed (at p i s j b) s' b' = refl

  pub fresh_act : (a : Action X) (g : Stage X) → Allowed within across passes keeps_streamed keeps_buffered a g → Good g → FreshAt g → FreshAt (act within across passes keeps_streamed keeps_buffered a g)
  fresh_act (read_streamed r) (stage s b es eb out w n t) e q f = λ s' b' fs fb h k.
      rw (same_passed t r []) (f (r ++ s') b' (λ d. absurd (false≢true (sym e ∙ d))) fb (rw append_assoc at h) k)
  fresh_act (read_buffered r) (stage s b es eb out w n t) e q f = λ s' b' fs fb h k.
      rw (same_passed t [] r) (All-weaker _ _ (λ x u. all_back _ r b' u) (passed_rows t) (f s' (r ++ b') fs (λ d. absurd (false≢true (sym e ∙ d))) h (rw append_assoc at k)))
  fresh_act take_turn (stage s b es eb out w n t) e q f = λ s' b' fs fb h k.
      turn_fresh within across passes laws only_same keeps_streamed keeps_buffered es eb s' b' fs fb t e (q s' b' fs fb h k).ordered (f s' b' fs fb h k)
