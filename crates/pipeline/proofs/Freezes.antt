-- Freezing entry by entry, in place.
use Rattle.std.proofs.Common.{◌≡◌, ℕ, ◌+◌, ◌-◌, ◌<◌, ◌≤◌, Bool, true, false, is_some, Some, refl, List, [], ◌∷◌, ◌++◌, length, get_or, take, drop, set, None, Option, sym, ap, ◌∙◌, append_assoc, append-nil, arith}
use Rattle.std.proofs.lemmas.List.{take_more_set, drop-set-lt, at_drop_more, at_drop_all, take_all}
use Rattle.std.proofs.lemmas.Bool.{false≢true}
use Rattle.rows.specs.declared.kind.Kind.{Kind}
use Rattle.rows.specs.declared.reading.Reading.{Reading}
use Rattle.pipeline.specs.declared.entry.Entry.{Entry}
use Rattle.pipeline.specs.declared.entry.StreamedRow.{StreamedRow}
use Rattle.pipeline.specs.declared.states.FilterState.{FilterState}
use Rattle.pipeline.specs.Orient.{buffered_place}
use Rattle.pipeline.specs.States.{mark_verdict, marking}
use Rattle.pipeline.specs.Freezing.{verdict_of, judged, judged_all}

abbrev pub with_verdict : Option Bool → Entry → Entry
with_verdict v e = record { row = e.row; verdict = v; «record» = e.«record»; left = e.left; right = e.right }

pub some_of : (r : Option StreamedRow) → is_some r ≡ true → (at : StreamedRow) × (r ≡ Some at)
some_of None e = absurd (false≢true e)
some_of (Some at) e = (at, refl)

pub none_of : (r : Option StreamedRow) → is_some r ≡ false → r ≡ None
none_of None e = refl
none_of (Some at) e = absurd (false≢true (sym e))

module _ (asks : Reading → Reading → Bool) (xs : List Entry) (i : ℕ) where
  -- xs is judged before i; one entry more is judged
  module _ (d : Entry) (h : i < length xs) (ys : List Entry) (is : ys ≡ set xs i (judged asks (get_or xs i d))) where
    rest : drop (i + 1) ys ≡ drop (i + 1) xs
    rest = ap (drop (i + 1)) is ∙ drop-set-lt (i + 1) xs i (judged asks (get_or xs i d)) (omega arith)

    pub judged_more : (whole : List Entry) → take i xs ++ judged_all asks (drop i xs) ≡ whole → take (i + 1) ys ++ judged_all asks (drop (i + 1) ys) ≡ whole
    judged_more whole inv =
        ap (λ l. take (i + 1) ys ++ judged_all asks l) rest
        ∙ ap (λ l. l ++ judged_all asks (drop (i + 1) xs)) (ap (take (i + 1)) is ∙ take_more_set xs i (judged asks (get_or xs i d)) h)
        ∙ append_assoc (take i xs) (judged asks (get_or xs i d) ∷ []) (judged_all asks (drop (i + 1) xs))
        ∙ sym (at_drop_more (λ l. take i xs ++ judged_all asks l) xs i d h) ∙ inv

    pub marking_more : (kind : Kind) (base : ℕ) (s s' whole : List FilterState)
        → s' ≡ mark_verdict (get_or xs i d).row (judged asks (get_or xs i d)).verdict (buffered_place kind (get_or xs i d).«record» - base) s
        → marking kind base (judged_all asks (drop i xs)) s ≡ whole → marking kind base (judged_all asks (drop (i + 1) ys)) s' ≡ whole
    marking_more kind base s s' whole marks inv =
        ap (λ l. marking kind base (judged_all asks l) s') rest
        ∙ ap (marking kind base (judged_all asks (drop (i + 1) xs))) marks
        ∙ sym (at_drop_more (λ l. marking kind base (judged_all asks l) s) xs i d h) ∙ inv

  -- a lone row is judged as it is
  pub judged_lone : (d : Entry) → (get_or xs i d).row ≡ None → set xs i (get_or xs i d) ≡ set xs i (judged asks (get_or xs i d))
  judged_lone d none =
      let e = get_or xs i d in
      ap (λ r. set xs i (with_verdict (verdict_of r e.verdict (asks e.left e.right)) e)) (sym none)

  pub judged_end : (whole : List Entry) → length xs ≤ i → take i xs ++ judged_all asks (drop i xs) ≡ whole → xs ≡ whole
  judged_end whole h inv =
      sym (take_all i xs h) ∙ sym (append-nil (take i xs)) ∙ sym (at_drop_all (λ l. take i xs ++ judged_all asks l) xs i h) ∙ inv

  pub marking_end : (kind : Kind) (base : ℕ) (s whole : List FilterState) → length xs ≤ i → marking kind base (judged_all asks (drop i xs)) s ≡ whole → s ≡ whole
  marking_end kind base s whole h inv = sym (at_drop_all (λ l. marking kind base (judged_all asks l) s) xs i h) ∙ inv
