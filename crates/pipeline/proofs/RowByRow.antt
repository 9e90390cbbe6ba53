-- Correction goes row by row.
use Rattle.std.proofs.Common.{◌≡◌, Bool, true, false, cond, not, ◌&&◌, eqb, List, [], ◌∷◌, ◌++◌, is_some, Some, None, Option, sym, refl, ap, ◌∙◌, append_assoc, append-nil}
use Rattle.std.proofs.lemmas.Bool.{eq-eqb, false≢true}
use Rattle.rows.specs.declared.kind.Kind.{Kind}
use Rattle.pipeline.specs.declared.entry.Entry.{Entry}
use Rattle.pipeline.specs.declared.entry.StreamedRow.{StreamedRow}
use Rattle.pipeline.specs.declared.correction.Fate.{Fate}
use Rattle.pipeline.specs.declared.correction.Fate.TheVariants.{Kept, Alone, Dropped}
use Rattle.pipeline.specs.Freezing.{passing, unless_no}
use Rattle.pipeline.specs.Correction.{same_row, last_of_row, fate, seen_after, fated, corrected, alone, OneRow, Apart, or_else, row_alone, unless_judged, unjudged, RowByRow}

-- one entry, given its fate and what is seen after it
pub corrected_one : (kind : Kind) (seen last seen' : Bool) (e : Entry) (es : List Entry) (f : Fate)
    → last ≡ last_of_row e es → f ≡ fate e.verdict seen last → seen' ≡ seen_after e.verdict seen last
    → corrected kind seen (e ∷ es) ≡ fated kind f e ++ corrected kind seen' es
corrected_one kind seen last seen' e es f is_last is_fate is_seen =
    ap (λ t. fated kind (fate e.verdict seen t) e ++ corrected kind (seen_after e.verdict seen t) es) (sym is_last)
    ∙ ap (λ g. fated kind g e ++ corrected kind (seen_after e.verdict seen last) es) (sym is_fate)
    ∙ ap (λ t. fated kind f e ++ corrected kind t es) (sym is_seen)

module _ (kind : Kind) where
  -- where a row ends, what follows is corrected by itself
  apart_corrected : (seen : Bool) (e : Entry) (es after : List Entry) → Apart (e ∷ es) after
      → corrected kind seen (e ∷ es ++ after) ≡ corrected kind seen (e ∷ es) ++ corrected kind false after
  apart_corrected seen e [] after ends =
      ap (λ t. fated kind (fate e.verdict seen t) e ++ corrected kind (seen_after e.verdict seen t) after) ends
      ∙ ap (λ l. l ++ corrected kind false after) (sym (append-nil (fated kind (fate e.verdict seen true) e)))
  apart_corrected seen e (f ∷ es) after ends =
      let seen' = seen_after e.verdict seen (last_of_row e (f ∷ es)) in
      let kept = fated kind (fate e.verdict seen (last_of_row e (f ∷ es))) e in
      ap (λ l. kept ++ l) (apart_corrected seen' f es after ends) ∙ sym (append_assoc kept (corrected kind seen' (f ∷ es)) (corrected kind false after))

  apart_from_start : (before after : List Entry) → Apart before after
      → corrected kind false (before ++ after) ≡ corrected kind false before ++ corrected kind false after
  apart_from_start [] after ends = refl
  apart_from_start (e ∷ es) after ends = apart_corrected false e es after ends

  goes_on : (at : StreamedRow) (e f : Entry) (es : List Entry) → e.row ≡ Some at → f.row ≡ Some at → last_of_row e (f ∷ es) ≡ false
  goes_on at e f es re rf =
      ap (λ r. not (same_row r f.row)) re ∙ ap (λ r. not (same_row (Some at) r)) rf
      ∙ ap (λ t. not (t && eqb at.row at.row)) (eq-eqb at.batch at.batch refl) ∙ ap not (eq-eqb at.row at.row refl)

  first_row : (at : StreamedRow) (f : Entry) (es : List Entry) → OneRow at (f ∷ es) → f.row ≡ Some at
  first_row at f [] one = one.0
  first_row at f (g ∷ es) one = one.0

  -- only the first entry of what follows counts
  longer : (before : List Entry) (e : Entry) (row after : List Entry) → Apart before (e ∷ row) → Apart before (e ∷ row ++ after)
  longer [] e row after starts = tt
  longer (f ∷ []) e row after starts = starts
  longer (f ∷ g ∷ before) e row after starts = longer (g ∷ before) e row after starts

  -- the entries of one row: with a yes seen before, the passing pairs; else those, or the row alone
  row_corrected : (seen : Bool) (at : StreamedRow) (row : List Entry) → OneRow at row
      → corrected kind seen row ≡ cond seen (passing row) (or_else (passing row) (row_alone kind row))
  row_corrected seen at [] one = absurd one
  row_corrected seen at (e ∷ []) one = go e.verdict refl one.1 seen
    where
      go : (v : Option Bool) → e.verdict ≡ v → is_some e.verdict ≡ true → (s : Bool)
          → corrected kind s (e ∷ []) ≡ cond s (passing (e ∷ [])) (or_else (passing (e ∷ [])) (alone kind e ∷ []))
      go None is some s = absurd (false≢true (ap is_some (sym is) ∙ some))
      go (Some true) is some true = rw is refl
      go (Some true) is some false = rw is refl
      go (Some false) is some true = rw is refl
      go (Some false) is some false = rw is refl
  row_corrected seen at (e ∷ f ∷ es) one = go e.verdict refl one.1 (λ s. row_corrected s at (f ∷ es) one.2) seen
    where
      on : last_of_row e (f ∷ es) ≡ false
      on = goes_on at e f es one.0 (first_row at f es one.2)

      passes : {v : Option Bool} → e.verdict ≡ v → passing (e ∷ f ∷ es) ≡ unless_no v e ++ passing (f ∷ es)
      passes is = ap (λ v. unless_no v e ++ passing (f ∷ es)) is

      kept : (s : Bool) → e.verdict ≡ Some true → corrected kind s (e ∷ f ∷ es) ≡ e ∷ corrected kind true (f ∷ es)
      kept s is = corrected_one kind s false true e (f ∷ es) Kept (sym on) (sym (ap (λ v. fate v s false) is)) (sym (ap (λ v. seen_after v s false) is))

      go : (v : Option Bool) → e.verdict ≡ v → is_some e.verdict ≡ true
          → ((s : Bool) → corrected kind s (f ∷ es) ≡ cond s (passing (f ∷ es)) (or_else (passing (f ∷ es)) (row_alone kind (f ∷ es)))) → (s : Bool)
          → corrected kind s (e ∷ f ∷ es) ≡ cond s (passing (e ∷ f ∷ es)) (or_else (passing (e ∷ f ∷ es)) (row_alone kind (f ∷ es)))
      go None is some more s = absurd (false≢true (ap is_some (sym is) ∙ some))
      go (Some true) is some more true = kept true is ∙ ap (λ l. e ∷ l) (more true) ∙ sym (passes is)
      go (Some true) is some more false = kept false is ∙ ap (λ l. e ∷ l) (more true) ∙ ap (λ l. or_else l (row_alone kind (f ∷ es))) (sym (passes is))
      go (Some false) is some more s =
          corrected_one kind s false s e (f ∷ es) Dropped (sym on) (sym (ap (λ v. fate v s false) is)) (sym (ap (λ v. seen_after v s false) is))
          ∙ more s ∙ ap (λ l. cond s l (or_else l (row_alone kind (f ∷ es)))) (sym (passes is))

  lone_ends : (before after : List Entry) (e : Entry) → e.row ≡ None → Apart before (e ∷ after)
  lone_ends [] after e none = tt
  lone_ends (f ∷ []) after e none = ap (λ r. not (same_row f.row r)) none ∙ of_no_row f.row
    where
      of_no_row : (r : Option StreamedRow) → not (same_row r None) ≡ true
      of_no_row None = refl
      of_no_row (Some at) = refl
  lone_ends (f ∷ g ∷ before) after e none = lone_ends (g ∷ before) after e none

  ends_lone : (e : Entry) (after : List Entry) → e.row ≡ None → last_of_row e after ≡ true
  ends_lone e [] none = refl
  ends_lone e (f ∷ after) none = ap (λ r. not (same_row r f.row)) none

  -- what correction makes of an entry that has a verdict has it too
  unjudged_fated : (f : Fate) (e : Entry) (v : Bool) (rest : List Entry) → e.verdict ≡ Some v → unjudged (fated kind f e ++ rest) ≡ unjudged rest
  unjudged_fated Kept e v rest is = ap (λ t. unless_judged t e ++ unjudged rest) is
  unjudged_fated Alone e v rest is = ap (λ t. unless_judged t (alone kind e) ++ unjudged rest) is
  unjudged_fated Dropped e v rest is = refl

  unjudged_stay : (seen : Bool) (es : List Entry) → unjudged (corrected kind seen es) ≡ unjudged es
  unjudged_stay seen [] = refl
  unjudged_stay seen (e ∷ es) = go e.verdict refl (unjudged_stay (seen_after e.verdict seen (last_of_row e es)) es)
    where
      left : List Entry
      left = corrected kind (seen_after e.verdict seen (last_of_row e es)) es

      go : (v : Option Bool) → e.verdict ≡ v → unjudged left ≡ unjudged es → unjudged (corrected kind seen (e ∷ es)) ≡ unjudged (e ∷ es)
      go None is more =
          ap (λ v. unjudged (fated kind (fate v seen (last_of_row e es)) e ++ left)) is ∙ ap (λ l. unless_judged e.verdict e ++ l) more
      go (Some v) is more =
          unjudged_fated (fate e.verdict seen (last_of_row e es)) e v left is ∙ more ∙ sym (ap (λ t. unless_judged t e ++ unjudged es) is)

  pub row_by_row : RowByRow kind
  row_by_row = record {
    one_row = λ before row after at one starts ends. of_row before row after at one starts ends;
    lone_row = λ before after e none without.
        apart_from_start before (e ∷ after) (lone_ends before after e none)
        ∙ ap (λ l. corrected kind false before ++ l)
        (corrected_one kind false true false e after Kept (sym (ends_lone e after none)) (sym (ap (λ v. fate v false true) without)) refl);
    without_verdict = unjudged_stay false;
  }
    where
      of_row : (before row after : List Entry) (at : StreamedRow) → OneRow at row → Apart before row → Apart row after
          → corrected kind false (before ++ (row ++ after)) ≡ corrected kind false before ++ (or_else (passing row) (row_alone kind row) ++ corrected kind false after)
      of_row before [] after at one starts ends = absurd one
      of_row before (e ∷ row) after at one starts ends =
          apart_from_start before (e ∷ row ++ after) (longer before e row after starts)
          ∙ ap (λ l. corrected kind false before ++ l)
          (apart_corrected false e row after ends ∙ ap (λ l. l ++ corrected kind false after) (row_corrected false at (e ∷ row) one))
