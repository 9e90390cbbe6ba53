-- What code can keep in place of all the streamed rows passed: for each buffered row left, whether one of them passes with it.
use Rattle.std.proofs.Common.{◌≡◌, ℕ, suc, Bool, true, false, cond, not, ◌||◌, List, [], ◌∷◌, ◌++◌, length, take, drop, replicate, Ordering, Less, Equal, Greater, sym, refl, ap, ◌∙◌, arith}
use Rattle.std.specs.List.{AllByRecursion}
use Rattle.std.proofs.lemmas.List.{drop_at, take_at}
use Rattle.std.proofs.lemmas.List.Recursion.{or_push}
use Rattle.std.proofs.ByRecursion.{All-weaker, All-push}
use Rattle.rows.specs.Order.{Laws, rank, is_after}
use Rattle.rows.specs.declared.record.Record.{Record}
use Rattle.rows.specs.declared.record.Record.TheVariants.{RightAlone}
use Rattle.merge.specs.Table.{when, meets_streamed, lone_buffered}
use Rattle.merge.specs.Runs.{Sorted, more_of_run, past_run}
use Rattle.merge.specs.Path.{State, at, Ordered, matched, pass_row, pass_run, turn, passed_rows}
use Rattle.merge.specs.Decided.{extended, is_before, Follows, complete, decided}
use Rattle.merge.proofs.Listed.{none_passes}
use Rattle.merge.proofs.Orders.{first_leads, past_is_after}
use Rattle.merge.proofs.Prefixes.{complete_stays}
use Rattle.merge.proofs.Steps.{Shuns, shuns_before, shuns_past, matched_front, run_splits}

-- the flags of the buffered rows b after the streamed rows p
abbrev pub flags : {X : Type 0} → (X → X → Bool) → List X → List X → List Bool
flags passes p [] = []
flags passes p (y ∷ b) = meets_streamed passes p y ∷ flags passes p b

-- the places, from j on, of the flags that are down
abbrev pub lone_flags : ℕ → List Bool → List Record
lone_flags j [] = []
lone_flags j (f ∷ l) = when (not f) (RightAlone j ∷ []) ++ lone_flags (suc j) l

-- the flags l of rows of which the first are m, after the streamed row x; the flags past m stay
abbrev pub raise : {X : Type 0} → (X → X → Bool) → X → List X → List Bool → List Bool
raise passes x [] l = l
raise passes x (y ∷ m) [] = []
raise passes x (y ∷ m) (f ∷ l) = (f || passes x y) ∷ raise passes x m l

module _ {X : Type 0} (passes : X → X → Bool) where
  -- a passed run's lone rows, read off the flags
  pub lone_by_flags : (p : List X) (j : ℕ) (b : List X) → lone_buffered passes p j b ≡ lone_flags j (flags passes p b)
  lone_by_flags p j [] = refl
  lone_by_flags p j (y ∷ b) = rw (lone_by_flags p (suc j) b)

  pub flags_append : (p b c : List X) → flags passes p (b ++ c) ≡ flags passes p b ++ flags passes p c
  flags_append p [] c = refl
  flags_append p (y ∷ b) c = rw (flags_append p b c)

  pub meets_push : (p : List X) (x y : X) → meets_streamed passes (p ++ x ∷ []) y ≡ (meets_streamed passes p y || passes x y)
  meets_push p x y = or_push (λ s. meets_streamed passes s y) (λ z. passes z y) refl (λ _ _. refl) p x

  flags_shunned : (p : List X) (x : X) (r : List X) → Shuns passes x r → flags passes (p ++ x ∷ []) r ≡ flags passes p r
  flags_shunned p x [] h = refl
  flags_shunned p x (y ∷ r) h = rw (flags_shunned p x r h.1, meets_push p x y, h.0) (ap (λ (f : Bool). f ∷ flags passes p r) (go (meets_streamed passes p y)))
    where
      go : (t : Bool) → (t || false) ≡ t
      go true = refl
      go false = refl

  -- a passed streamed row raises flags among the rows that it is matched with
  pub flags_row : (p : List X) (x : X) (m r : List X) → Shuns passes x r → flags passes (p ++ x ∷ []) (m ++ r) ≡ raise passes x m (flags passes p (m ++ r))
  flags_row p x [] r h = flags_shunned p x r h
  flags_row p x (y ∷ m) r h = rw (meets_push p x y, flags_row p x m r h)

  -- a row that all the passed ones shun meets none
  pub meets_none : (p : List X) (y : X) → AllByRecursion (λ x. passes x y ≡ false) p → meets_streamed passes p y ≡ false
  meets_none p y h = none_passes (λ x. passes x y) p h

  -- rows that all the passed ones shun have their flags down
  pub flags_down : (p r : List X) → AllByRecursion (λ x. Shuns passes x r) p → flags passes p r ≡ replicate (length r) false
  flags_down p [] h = refl
  flags_down p (y ∷ r) h = rw (meets_none p y (All-weaker _ _ (λ x k. k.0) p h), flags_down p r (All-weaker _ _ (λ x k. k.1) p h))

pub all_back : {A : Type 0} (P : A → Type 0) (a b : List A) → AllByRecursion P (a ++ b) → AllByRecursion P b
all_back P [] b h = h
all_back P (x ∷ a) b h = all_back P a b h.1

-- a streamed row that a decided turn passes shuns whatever buffered rows are read later
module _ {X : Type 0} (within across : X → X → Ordering) (passes : X → X → Bool) (laws : Laws within across) (only_same : (x y : X) → passes x y ≡ true → across x y ≡ Equal)
    (keeps_streamed keeps_buffered ended_streamed ended_buffered : Bool) (s' b' : List X) (follows_streamed : Follows ended_streamed s') (follows_buffered : Follows ended_buffered b') where
  abbrev Fresh : State X → Type 0
  Fresh t = AllByRecursion (λ x. Shuns passes x b') (passed_rows t)

  pub turn_fresh : (t : State X) → decided within across ended_streamed ended_buffered t ≡ true → Ordered within (extended t s' b') → Fresh t → Fresh (turn within across passes keeps_streamed keeps_buffered t).next
  turn_fresh (at p i [] j []) d h f = f
  turn_fresh (at p i [] j (y ∷ b)) d h f = f
  turn_fresh (at p i (x ∷ s) j []) d h f = All-push _ p x f (rw (follows_buffered d) tt)
  turn_fresh (at p i (x ∷ s) j (y ∷ b)) d h f = go (across x y) refl d
    where
      go : (o : Ordering) → across x y ≡ o → (is_before o || complete within across ended_streamed ended_buffered y b) ≡ true
          → Fresh (cond (is_after o) (pass_run within across passes keeps_streamed keeps_buffered p i (x ∷ s) j y b) (pass_row within across passes keeps_streamed keeps_buffered p i x s j (y ∷ b))).next
      go Less e k = All-push _ p x f (All-weaker _ _ (λ z q. shuns_before within across passes laws only_same x z (omega (arith, laws.falls_buffered x y z q, ap rank e))) b' (all_back _ b b' (first_leads within across laws y (b ++ b') h.1)))
      go Equal e k =
          let w = complete_stays within across ended_streamed ended_buffered passes keeps_streamed keeps_buffered s' b' follows_streamed follows_buffered y b k in
          let u = rw w.1 at (past_is_after within across laws y (b ++ b') h.1) in
          All-push _ p x f (All-weaker _ _ (λ z q. shuns_past within across passes laws only_same x y z e q) b' (all_back _ (past_run within y b) b' u))
      go Greater e k = f

-- the three moves of code that keeps flags
length_flags : {X : Type 0} (passes : X → X → Bool) (p b : List X) → length (flags passes p b) ≡ length b
length_flags passes p [] = refl
length_flags passes p (y ∷ b) = ap suc (length_flags passes p b)

module _ {X : Type 0} (within across : X → X → Ordering) (passes : X → X → Bool) where
  -- a row is passed: the flags of what it is matched with may rise
  pub flags_after_row : Laws within across → ((x y : X) → passes x y ≡ true → across x y ≡ Equal) → (p : List X) (x : X) (b : List X) → Sorted within b → ((y : X) (c : List X) → b ≡ y ∷ c → is_after (across x y) ≡ false)
      → flags passes (p ++ x ∷ []) b ≡ raise passes x (matched within across x b) (flags passes p b)
  flags_after_row laws only_same p x b h f =
      let m : List X = matched within across x b in
      let w = matched_front within across passes laws only_same x b h f in
      ap (flags passes (p ++ x ∷ [])) w.1 ∙ flags_row passes p x m w.0 w.2 ∙ ap (λ (l : List X). raise passes x m (flags passes p l)) (sym w.1)

  -- a run is passed: its flags go
  split_flags : (p : List X) (y : X) (b : List X) → flags passes p (y ∷ b) ≡ flags passes p (y ∷ more_of_run within y b) ++ flags passes p (past_run within y b)
  split_flags p y b = ap (λ (l : List X). flags passes p (y ∷ l)) (sym (run_splits within y b)) ∙ flags_append passes p (y ∷ more_of_run within y b) (past_run within y b)

  pub flags_after_run : (p : List X) (y : X) (b : List X) → drop (length (y ∷ more_of_run within y b)) (flags passes p (y ∷ b)) ≡ flags passes p (past_run within y b)
  flags_after_run p y b = ap (drop (length (y ∷ more_of_run within y b))) (split_flags p y b) ∙ drop_at (flags passes p (y ∷ more_of_run within y b)) _ _ (length_flags passes p (y ∷ more_of_run within y b))

  -- and say which of its rows are alone
  pub lone_of_run : (p : List X) (j : ℕ) (y : X) (b : List X) → lone_buffered passes p j (y ∷ more_of_run within y b) ≡ lone_flags j (take (length (y ∷ more_of_run within y b)) (flags passes p (y ∷ b)))
  lone_of_run p j y b = lone_by_flags passes p j (y ∷ more_of_run within y b)
      ∙ ap (lone_flags j) (sym (ap (take (length (y ∷ more_of_run within y b))) (split_flags p y b) ∙ take_at (flags passes p (y ∷ more_of_run within y b)) _ _ (length_flags passes p (y ∷ more_of_run within y b))))

  -- rows are read: their flags are down
  pub flags_after_read : (p b r : List X) → AllByRecursion (λ x. Shuns passes x r) p → flags passes p (b ++ r) ≡ flags passes p b ++ replicate (length r) false
  flags_after_read p b r h = flags_append passes p b r ∙ ap (λ (l : List Bool). flags passes p b ++ l) (flags_down passes p r h)
