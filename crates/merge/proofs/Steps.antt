-- One turn: what it contributes and what is still to come make up what was to come before.
use Rattle.std.proofs.Common.{◌≡◌, ℕ, zero, suc, ◌+◌, ◌≤◌, Bool, true, false, cond, not, List, [], ◌∷◌, ◌++◌, length, Ordering, Less, Equal, Greater, sym, refl, ap, ◌∙◌, true≢false, append_assoc, arith}
use mathlib.Core.List.{nil≢cons, head-eq_of_cons-eq}
use mathlib.Core.List.Permᴰ
use mathlib.Core.List.{Permᴰ}
use Rattle.std.specs.List.{AllByRecursion}
use Rattle.std.proofs.ByRecursion.{All-weaker}
use Rattle.rows.specs.Order.{Laws, rank, is_same, is_after}
use Rattle.merge.specs.Table.{when, meets_buffered, meets_streamed, pairs_of, all_pairs, lone_streamed, lone_buffered, table_from}
use Rattle.merge.specs.Runs.{Sorted, more_of_run, past_run}
use Rattle.merge.specs.Path.{State, at, to_come, Ordered, Turn, matched, pass_row, pass_run, turn, path, after}
use Rattle.rows.specs.declared.record.Record.TheVariants.{Pair, LeftAlone, RightAlone}
use Rattle.merge.proofs.Perms.{same, row_block, run_block}
use Rattle.merge.proofs.Listed.{when_append, any_front, any_back, listed_append, listed_front, listed_back}
use Rattle.merge.proofs.Orders.{sums, first_leads, past_is_after, run_is_level, past_sorted}

module _ {X : Type 0} (passes : X → X → Bool) where
  -- a streamed row that passes with no row of l
  abbrev pub Shuns : X → List X → Type 0
  Shuns x l = AllByRecursion (λ y. passes x y ≡ false) l

  -- buffered rows l that each row of s shuns add nothing before r
  all_pairs_back : (i : ℕ) (s : List X) (j : ℕ) (l r : List X) → AllByRecursion (λ x. Shuns x l) s → all_pairs passes i s j (l ++ r) ≡ all_pairs passes i s (j + length l) r
  all_pairs_back i [] j l r h = refl
  all_pairs_back i (x ∷ s) j l r h = rw (listed_back (Pair i) (passes x) j l r h.0, all_pairs_back (suc i) s j l r h.1)

  lone_streamed_back : (i : ℕ) (s : List X) (l r : List X) → AllByRecursion (λ x. Shuns x l) s → lone_streamed passes i s (l ++ r) ≡ lone_streamed passes i s r
  lone_streamed_back i [] l r h = refl
  lone_streamed_back i (x ∷ s) l r h = rw (any_back (passes x) l r h.0, lone_streamed_back (suc i) s l r h.1)

  lone_buffered_front : (p s : List X) (j : ℕ) (l : List X) → AllByRecursion (λ x. Shuns x l) s → lone_buffered passes (p ++ s) j l ≡ lone_buffered passes p j l
  lone_buffered_front p s j [] h = refl
  lone_buffered_front p s j (y ∷ l) h = rw (any_front (λ x. passes x y) p s (All-weaker _ _ (λ x k. k.0) s h), lone_buffered_front p s (suc j) l (All-weaker _ _ (λ x k. k.1) s h))

  module _ (keeps_streamed keeps_buffered : Bool) where
    row_step : (p : List X) (i : ℕ) (x : X) (s : List X) (j : ℕ) (m b : List X) → pairs_of passes i x j b ≡ pairs_of passes i x j m → meets_buffered passes x b ≡ meets_buffered passes x m
        → Permᴰ ((pairs_of passes i x j m ++ when keeps_streamed (when (not (meets_buffered passes x m)) (LeftAlone i ∷ []))) ++ table_from passes keeps_streamed keeps_buffered (p ++ x ∷ []) (suc i) s j b)
        (table_from passes keeps_streamed keeps_buffered p i (x ∷ s) j b)
    row_step p i x s j m b e e' =
        rw (e, e', append_assoc p (x ∷ []) s, when_append keeps_streamed (when (not (meets_buffered passes x m)) (LeftAlone i ∷ [])) (lone_streamed passes (suc i) s b))
        (row_block (pairs_of passes i x j m) _ (all_pairs passes (suc i) s j b) _ _)

    run_step : (p : List X) (i : ℕ) (s : List X) (j : ℕ) (l r : List X) → AllByRecursion (λ x. Shuns x l) s
        → Permᴰ (when keeps_buffered (lone_buffered passes p j l) ++ table_from passes keeps_streamed keeps_buffered p i s (j + length l) r)
        (table_from passes keeps_streamed keeps_buffered p i s j (l ++ r))
    run_step p i s j l r h =
        rw (all_pairs_back i s j l r h, lone_streamed_back i s l r h, listed_append RightAlone (λ y. not (meets_streamed passes (p ++ s) y)) j l r, lone_buffered_front p s j l h, when_append keeps_buffered (lone_buffered passes p j l) (lone_buffered passes (p ++ s) (j + length l) r))
        (run_block (when keeps_buffered (lone_buffered passes p j l)) (all_pairs passes i s (j + length l) r) _ _)

-- what a turn keeps: its contributions and what is to come after it make up what was to come before it
pub record Kept {X : Type 0} (within : X → X → Ordering) (passes : X → X → Bool) (keeps_streamed keeps_buffered : Bool) (t : State X) (u : Turn X) : Type 0 where
  pub makes_up : Permᴰ (u.gives ++ to_come passes keeps_streamed keeps_buffered u.next) (to_come passes keeps_streamed keeps_buffered t)
  pub ordered : Ordered within u.next

-- ---- what the comparisons say of a turn

pub run_splits : {X : Type 0} (within : X → X → Ordering) (y : X) (b : List X) → more_of_run within y b ++ past_run within y b ≡ b
run_splits within y [] = refl
run_splits within y (z ∷ b) = go (is_same (within y z)) (run_splits within z b)
  where
    go : (t : Bool) → more_of_run within z b ++ past_run within z b ≡ b → cond t (z ∷ more_of_run within z b) [] ++ cond t (past_run within z b) (z ∷ b) ≡ z ∷ b
    go true e = ap (λ (l : List _). z ∷ l) e
    go false e = refl

after_rank : (o : Ordering) → is_after o ≡ true → rank o ≡ 2
after_rank Less e = cc
after_rank Equal e = cc
after_rank Greater e = refl

module _ {X : Type 0} (within across : X → X → Ordering) (passes : X → X → Bool) (laws : Laws within across) (only_same : (x y : X) → passes x y ≡ true → across x y ≡ Equal) where
  shuns_unless : (x y : X) → (across x y ≡ Equal → ⊥) → passes x y ≡ false
  shuns_unless x y h = go (passes x y) refl
    where
      go : (t : Bool) → passes x y ≡ t → passes x y ≡ false
      go true e = absurd (h (only_same x y e))
      go false e = e

  pub shuns_before : (x y : X) → rank (across x y) ≡ 0 → passes x y ≡ false
  shuns_before x y h = shuns_unless x y (λ e. omega (arith, ap rank e))

  shuns_after : (x y : X) → rank (across x y) ≡ 2 → passes x y ≡ false
  shuns_after x y h = shuns_unless x y (λ e. omega (arith, ap rank e))

  -- x is the same as y, and z comes strictly after y
  pub shuns_past : (x y z : X) → across x y ≡ Equal → rank (within y z) ≡ 0 → passes x z ≡ false
  shuns_past x y z e h = shuns_unless x z (λ q.
      let u : rank (within x y) ≡ 1 = ap rank (laws.same_is_same x y e) in
      let v : rank (within x z) ≡ 1 = ap rank (laws.same_is_same x z q) in
      let w : rank (within z x) ≤ 1 = omega (arith, sums within across laws x z) in
      omega (arith, sums within across laws y z, laws.passes_on z x y w (omega arith)))

  -- the rows of the first run with which x may pass stand in front, and x shuns the others
  pub matched_front : (x : X) (l : List X) → Sorted within l → ((y : X) (b : List X) → l ≡ y ∷ b → is_after (across x y) ≡ false) → (r : List X) × (l ≡ matched within across x l ++ r) × Shuns passes x r
  matched_front x [] h k = ([], refl, tt)
  matched_front x (y ∷ b) h k = go (across x y) refl (k y b refl)
    where
      go : (o : Ordering) → across x y ≡ o → is_after o ≡ false → (r : List X) × (y ∷ b ≡ when (is_same o) (y ∷ more_of_run within y b) ++ r) × Shuns passes x r
      go Less e a = (y ∷ b, refl, (shuns_before x y (ap rank e), All-weaker _ _ (λ z q. shuns_before x z (omega (arith, laws.falls_buffered x y z q, ap rank e))) b (first_leads within across laws y b h)))
      go Equal e a = (past_run within y b, ap (λ (l : List X). y ∷ l) (sym (run_splits within y b)), All-weaker _ _ (λ z q. shuns_past x y z e q) (past_run within y b) (past_is_after within across laws y b h))
      go Greater e a = absurd (true≢false a)

  -- every streamed row left shuns the first run, if the first one is after it
  run_shunned : (x : X) (s : List X) (y : X) (b : List X) → Sorted within (x ∷ s) → rank (across x y) ≡ 2 → AllByRecursion (λ x. Shuns passes x (y ∷ more_of_run within y b)) (x ∷ s)
  run_shunned x s y b h e = (each x e, All-weaker _ _ (λ z q. each z (omega (arith, laws.rises_streamed x z y q, top (across z y)))) s (first_leads within across laws x s h))
    where
      top : (o : Ordering) → rank o ≤ 2
      top Less = omega arith
      top Equal = omega arith
      top Greater = omega arith

      each : (z : X) → rank (across z y) ≡ 2 → Shuns passes z (y ∷ more_of_run within y b)
      each z q = (shuns_after z y q, All-weaker _ _ (λ w u. shuns_after z w (omega (arith, laws.falls_buffered z w y u, top (across z w)))) (more_of_run within y b) (run_is_level within across laws y b))

  module _ (keeps_streamed keeps_buffered : Bool) where
    row_turn : (p : List X) (i : ℕ) (x : X) (s : List X) (j : ℕ) (b : List X) → Sorted within (x ∷ s) → Sorted within b → ((y : X) (c : List X) → b ≡ y ∷ c → is_after (across x y) ≡ false)
        → Kept within passes keeps_streamed keeps_buffered (at p i (x ∷ s) j b) (pass_row within across passes keeps_streamed keeps_buffered p i x s j b)
    row_turn p i x s j b h k f =
        let m : List X = matched within across x b in
        let w = matched_front x b k f in
        record {
          makes_up = row_step passes keeps_streamed keeps_buffered p i x s j m b
              (ap (pairs_of passes i x j) w.1 ∙ listed_front (Pair i) (passes x) j m w.0 w.2)
              (ap (meets_buffered passes x) w.1 ∙ any_front (passes x) m w.0 w.2);
          ordered = (h.1, k);
        }

    run_turn : (p : List X) (i : ℕ) (s : List X) (j : ℕ) (y : X) (b : List X) → Sorted within s → Sorted within (y ∷ b) → AllByRecursion (λ x. Shuns passes x (y ∷ more_of_run within y b)) s
        → Kept within passes keeps_streamed keeps_buffered (at p i s j (y ∷ b)) (pass_run within across passes keeps_streamed keeps_buffered p i s j y b)
    run_turn p i s j y b h k f =
        let r = run_step passes keeps_streamed keeps_buffered p i s j (y ∷ more_of_run within y b) (past_run within y b) f in
        record {
          makes_up = Permᴰ.trans r (same (ap (λ (l : List X). table_from passes keeps_streamed keeps_buffered p i s j (y ∷ l)) (run_splits within y b)));
          ordered = (h, past_sorted within across laws y b k.1);
        }

    pub turn_keeps : (t : State X) → Ordered within t → Kept within passes keeps_streamed keeps_buffered t (turn within across passes keeps_streamed keeps_buffered t)
    turn_keeps (at p i [] j []) h = record { makes_up = Permᴰ.refl _; ordered = h }
    turn_keeps (at p i [] j (y ∷ b)) h = run_turn p i [] j y b h.0 h.1 tt
    turn_keeps (at p i (x ∷ s) j []) h = row_turn p i x s j [] h.0 h.1 (λ y c e. absurd (nil≢cons e))
    turn_keeps (at p i (x ∷ s) j (y ∷ b)) h = go (is_after (across x y)) refl
      where
        go : (t : Bool) → is_after (across x y) ≡ t → Kept within passes keeps_streamed keeps_buffered (at p i (x ∷ s) j (y ∷ b)) (cond t (pass_run within across passes keeps_streamed keeps_buffered p i (x ∷ s) j y b) (pass_row within across passes keeps_streamed keeps_buffered p i x s j (y ∷ b)))
        go true e = run_turn p i (x ∷ s) j y b h.0 h.1 (run_shunned x s y b h.0 (after_rank (across x y) e))
        go false e = row_turn p i x s j (y ∷ b) h.0 h.1 (λ z c q. ap (λ (v : X). is_after (across x v)) (sym (head-eq_of_cons-eq q)) ∙ e)

    -- the same over any number of turns
    pub path_keeps : (n : ℕ) (t : State X) → Ordered within t
        → Permᴰ (path within across passes keeps_streamed keeps_buffered n t ++ to_come passes keeps_streamed keeps_buffered (after within across passes keeps_streamed keeps_buffered n t)) (to_come passes keeps_streamed keeps_buffered t)
    path_keeps zero t h = Permᴰ.refl _
    path_keeps (suc n) t h =
        let k = turn_keeps t h in
        Permᴰ.trans (same (append_assoc (turn within across passes keeps_streamed keeps_buffered t).gives _ _)) (Permᴰ.trans (Permᴰ.append_left _ (path_keeps n _ k.ordered)) k.makes_up)
