-- Entries of the block as entries of the plain machine: what freezing, marking, correction and handing over make of them.
use Rattle.std.proofs.Common.{◌≡◌, ℕ, zero, suc, ◌+◌, ◌-◌, Bool, true, false, not, ◌&&◌, eqb, ◌⊎◌, List, [], ◌∷◌, ◌++◌, map, length, Some, None, Option, sym, refl, ap, ◌∙◌, subst, inl, inr, arith}
use Rattle.std.proofs.lemmas.List.{map-append}
use Rattle.std.specs.List.{AllByRecursion}
use Rattle.std.proofs.lemmas.Bool.{cases_eq, eq-eqb, ne_eqb}
use Rattle.rows.specs.declared.kind.Kind.{Kind}
use Rattle.rows.specs.declared.kind.Kind.TheVariants.{Inner, Left, Right, Full}
use Rattle.rows.specs.declared.reading.Reading.{Reading}
use Rattle.rows.specs.declared.record.Record.{Record}
use Rattle.rows.specs.declared.record.Record.TheVariants.{Pair, LeftAlone, RightAlone}
use Rattle.rows.specs.Sides.{oriented}
use Rattle.merge.specs.Table.{when}
use Rattle.law.specs.Pipe.{fixed, judged, Mark, unseen, failing, met, goes_on, plain, alones, fixeds, failures, is_failing}
use Rattle.law.specs.Pipe.{Entry as plain_entry, corrected as plain_corrected, marking as plain_marking, marked as plain_marked, mark_at as plain_mark_at}
use Rattle.pipeline.specs.declared.entry.Entry.{Entry}
use Rattle.pipeline.specs.declared.entry.StreamedRow.{StreamedRow}
use Rattle.pipeline.specs.declared.states.FilterState.{FilterState}
use Rattle.pipeline.specs.declared.states.FilterState.TheVariants.{Unvisited, AllFailed, SomePassed}
use Rattle.pipeline.specs.Entries.{lone}
use Rattle.pipeline.specs.Orient.{paired, streamed_alone, buffered_alone, without_partner, buffered_place}
use Rattle.pipeline.specs.States.{marked, mark_at, mark_verdict, marking, if_failed, failed}
use Rattle.pipeline.specs.Freezing.{verdict_of, judged_all, passing, unless_no}
use Rattle.pipeline.specs.Correction.{same_row, last_of_row, fate, seen_after, fated, corrected}
use Rattle.pipeline.specs.Block.{records}

abbrev pub mark_of : FilterState → Mark
mark_of Unvisited = unseen
mark_of AllFailed = failing
mark_of SomePassed = met

-- records by kind, turned round
pub oriented_pair : (kind : Kind) (i j : ℕ) → oriented kind (paired kind i j) ≡ Pair i j
oriented_pair Inner i j = refl
oriented_pair Left i j = refl
oriented_pair Right i j = refl
oriented_pair Full i j = refl

pub oriented_without : (kind : Kind) (i j : ℕ) → oriented kind (without_partner kind (paired kind i j)) ≡ LeftAlone i
oriented_without Inner i j = refl
oriented_without Left i j = refl
oriented_without Right i j = refl
oriented_without Full i j = refl

pub oriented_streamed : (kind : Kind) (i : ℕ) → oriented kind (streamed_alone kind i) ≡ LeftAlone i
oriented_streamed Inner i = refl
oriented_streamed Left i = refl
oriented_streamed Right i = refl
oriented_streamed Full i = refl

pub oriented_buffered : (kind : Kind) (j : ℕ) → oriented kind (buffered_alone kind j) ≡ RightAlone j
oriented_buffered Inner j = refl
oriented_buffered Left j = refl
oriented_buffered Right j = refl
oriented_buffered Full j = refl

pub place_of_pair : (kind : Kind) (i j : ℕ) → buffered_place kind (paired kind i j) ≡ j
place_of_pair Inner i j = refl
place_of_pair Left i j = refl
place_of_pair Right i j = refl
place_of_pair Full i j = refl

pub place_of_alone : (kind : Kind) (j : ℕ) → buffered_place kind (buffered_alone kind j) ≡ j
place_of_alone Inner j = refl
place_of_alone Left j = refl
place_of_alone Right j = refl
place_of_alone Full j = refl

module _ (kind : Kind) (asks : Reading → Reading → Bool) where
  -- an entry as the plain machine has it
  abbrev pub told_of : Option StreamedRow → Record → Bool → plain_entry
  told_of None r said = fixed (oriented kind r)
  told_of (Some at) r said = judged (at.batch + at.row) (buffered_place kind r) said

  abbrev pub entry_of : Entry → plain_entry
  entry_of e = told_of e.row e.«record» (asks e.left e.right)

  abbrev pub place_of : Entry → ℕ
  place_of e = buffered_place kind e.«record»

  -- freezing changes nothing there
  pub entries_judged : (es : List Entry) → map entry_of (judged_all asks es) ≡ map entry_of es
  entries_judged [] = refl
  entries_judged (e ∷ es) = ap (λ (l : List plain_entry). entry_of e ∷ l) (entries_judged es)

  -- ---- entries as they are made

  module _ (batch_of : ℕ → ℕ) where
    abbrev pub FitsRow : Option StreamedRow → Option Bool → Record → Type 0
    FitsRow None v r = v ≡ None
    FitsRow (Some at) v r = (r ≡ paired kind (at.batch + at.row) (buffered_place kind r)) × (at.batch ≡ batch_of (at.batch + at.row))

    abbrev pub JudgedRow : Option StreamedRow → Option Bool → Bool → Type 0
    JudgedRow None v said = Unit {0}
    JudgedRow (Some at) v said = v ≡ Some said

    -- A lone row has no verdict. A pair names its rows' places and the batch of its streamed row.
    abbrev pub Made : Entry → Type 0
    Made e = FitsRow e.row e.verdict e.«record»

    -- a frozen pair has its verdict
    abbrev pub Frozen : Entry → Type 0
    Frozen e = Made e × JudgedRow e.row e.verdict (asks e.left e.right)

    made_judged : (row : Option StreamedRow) (v : Option Bool) (r : Record) (said : Bool) → FitsRow row v r → FitsRow row (verdict_of row v said) r × JudgedRow row (verdict_of row v said) said
    made_judged None v r said h = (h, tt)
    made_judged (Some at) v r said h = (h, refl)

    pub frozen_judged : (es : List Entry) → AllByRecursion Made es → AllByRecursion Frozen (judged_all asks es)
    frozen_judged [] h = tt
    frozen_judged (e ∷ es) h = (made_judged e.row e.verdict e.«record» (asks e.left e.right) h.0, frozen_judged es h.1)

    -- ---- handing over without correction

    abbrev kept_record : Option Bool → Record → List Record
    kept_record None r = r ∷ []
    kept_record (Some v) r = when v (r ∷ [])

    unless_records : (v : Option Bool) (e : Entry) (es : List Entry) → records (unless_no v e ++ es) ≡ kept_record v e.«record» ++ records es
    unless_records None e es = refl
    unless_records (Some true) e es = refl
    unless_records (Some false) e es = refl

    pair_oriented : (at : StreamedRow) (r : Record) → r ≡ paired kind (at.batch + at.row) (buffered_place kind r) → oriented kind r ≡ Pair (at.batch + at.row) (buffered_place kind r)
    pair_oriented at r h = ap (oriented kind) h ∙ oriented_pair kind (at.batch + at.row) (buffered_place kind r)

    kept_plain : (row : Option StreamedRow) (v : Option Bool) (r : Record) (said : Bool) (rest : List Record) (l : List plain_entry) → FitsRow row v r → JudgedRow row v said
        → map (oriented kind) rest ≡ plain l → map (oriented kind) (kept_record v r ++ rest) ≡ plain (told_of row r said ∷ l)
    kept_plain None None r said rest l h j e = ap (λ (q : List Record). oriented kind r ∷ q) e
    kept_plain None (Some v) r said rest l h j e = cc
    kept_plain (Some at) None r said rest l h j e = cc
    kept_plain (Some at) (Some true) r true rest l h j e = rw (pair_oriented at r h.0, e)
    kept_plain (Some at) (Some false) r true rest l h j e = cc
    kept_plain (Some at) (Some true) r false rest l h j e = cc
    kept_plain (Some at) (Some false) r false rest l h j e = e

    -- what is handed over as it freezes
    pub released : (es : List Entry) → AllByRecursion Frozen es → map (oriented kind) (records (passing es)) ≡ plain (map entry_of es)
    released [] h = refl
    released (e ∷ es) h = ap (map (oriented kind)) (unless_records e.verdict e (passing es)) ∙ kept_plain e.row e.verdict e.«record» (asks e.left e.right) (records (passing es)) (map entry_of es) h.0.0 h.0.1 (released es h.1)

    -- ---- correction

    -- does the next entry belong to the same streamed row?
    abbrev goes_row : Option StreamedRow → List plain_entry → Bool
    goes_row None l = false
    goes_row (Some at) l = goes_on (at.batch + at.row) l

    same_places : (a b : StreamedRow) → a.batch ≡ batch_of (a.batch + a.row) → b.batch ≡ batch_of (b.batch + b.row) → (eqb a.batch b.batch && eqb a.row b.row) ≡ eqb (a.batch + a.row) (b.batch + b.row)
    same_places a b h k = go (cases_eq (a.batch + a.row) (b.batch + b.row)) (cases_eq a.batch b.batch) (cases_eq a.row b.row)
      where
        go : ((a.batch + a.row ≡ b.batch + b.row) ⊎ (a.batch + a.row ≡ b.batch + b.row → ⊥)) → ((a.batch ≡ b.batch) ⊎ (a.batch ≡ b.batch → ⊥)) → ((a.row ≡ b.row) ⊎ (a.row ≡ b.row → ⊥)) → (eqb a.batch b.batch && eqb a.row b.row) ≡ eqb (a.batch + a.row) (b.batch + b.row)
        go (inl e) (inl f) (inl g) = rw (eq-eqb _ _ e, eq-eqb _ _ f, eq-eqb _ _ g)
        go (inl e) (inl f) (inr g) = absurd (g (omega arith))
        go (inl e) (inr f) g = absurd (f (h ∙ ap batch_of e ∙ sym k))
        go (inr e) (inl f) (inl g) = absurd (e (omega arith))
        go (inr e) (inl f) (inr g) = rw (eq-eqb _ _ f, ne_eqb _ _ g, ne_eqb _ _ e)
        go (inr e) (inr f) g = rw (ne_eqb _ _ f, ne_eqb _ _ e)

    goes_next : (row : Option StreamedRow) (v : Option Bool) (r : Record) (row' : Option StreamedRow) (v' : Option Bool) (r' : Record) (said : Bool) (l : List plain_entry) → FitsRow row v r → FitsRow row' v' r' → same_row row row' ≡ goes_row row (told_of row' r' said ∷ l)
    goes_next None v r row' v' r' said l h k = refl
    goes_next (Some a) v r None v' r' said l h k = refl
    goes_next (Some a) v r (Some b) v' r' said l h k = same_places a b h.1 k.1

    goes_none : (row : Option StreamedRow) → goes_row row [] ≡ false
    goes_none None = refl
    goes_none (Some at) = refl

    last_is : (e : Entry) (es : List Entry) → Made e → AllByRecursion Frozen es → last_of_row e es ≡ not (goes_row e.row (map entry_of es))
    last_is e [] h k = ap not (sym (goes_none e.row))
    last_is e (n ∷ es) h k = ap not (goes_next e.row e.verdict e.«record» n.row n.verdict n.«record» (asks n.left n.right) (map entry_of es) h k.0.0)

    -- one entry, and the rest
    corrects : (e : Entry) (row : Option StreamedRow) (v : Option Bool) (said seen last : Bool) (rest : Bool → List Entry) (l : List plain_entry) → FitsRow row v e.«record» → JudgedRow row v said → last ≡ not (goes_row row l)
        → ((s : Bool) → map (oriented kind) (records (rest s)) ≡ plain_corrected s l) → map (oriented kind) (records (fated kind (fate v seen last) e ++ rest (seen_after v seen last))) ≡ plain_corrected seen (told_of row e.«record» said ∷ l)
    corrects e None None said seen true rest l h j z ih = ap (λ (q : List Record). oriented kind e.«record» ∷ q) (ih false)
    corrects e None None said seen false rest l h j z ih = absurd (let k : ◌≡◌ {A = ℕ} 0 1 = cc in omega arith)
    corrects e None (Some v) said seen last rest l h j z ih = absurd (let k : ◌≡◌ {A = ℕ} 0 1 = cc in omega arith)
    corrects e (Some at) v said seen last rest l h j z ih = subst (λ w. map (oriented kind) (records (fated kind (fate w seen last) e ++ rest (seen_after w seen last))) ≡ plain_corrected seen (judged (at.batch + at.row) (buffered_place kind e.«record») said ∷ l)) (sym j) (go said seen last (goes_on (at.batch + at.row) l) refl z)
      where
        i : ℕ
        i = at.batch + at.row

        place : ℕ
        place = buffered_place kind e.«record»

        go : (said seen last g : Bool) → goes_on i l ≡ g → last ≡ not g → map (oriented kind) (records (fated kind (fate (Some said) seen last) e ++ rest (seen_after (Some said) seen last))) ≡ plain_corrected seen (judged i place said ∷ l)
        go true seen true false q z = rw (q, pair_oriented at e.«record» h.0) (ap (λ (k : List Record). Pair i place ∷ k) (ih false))
        go true seen false true q z = rw (q, pair_oriented at e.«record» h.0) (ap (λ (k : List Record). Pair i place ∷ k) (ih true))
        go false true true false q z = rw q (ih false)
        go false false true false q z = rw q (ap (λ (k : Record). oriented kind (without_partner kind k) ∷ map (oriented kind) (records (rest false))) h.0 ∙ ap (λ (k : Record). k ∷ map (oriented kind) (records (rest false))) (oriented_without kind i place) ∙ ap (λ (k : List Record). LeftAlone i ∷ k) (ih false))
        go false seen false true q z = rw q (ih seen)
        go true seen true true q z = absurd (let k : ◌≡◌ {A = ℕ} 0 1 = cc in omega arith)
        go false seen true true q z = absurd (let k : ◌≡◌ {A = ℕ} 0 1 = cc in omega arith)
        go true seen false false q z = absurd (let k : ◌≡◌ {A = ℕ} 0 1 = cc in omega arith)
        go false seen false false q z = absurd (let k : ◌≡◌ {A = ℕ} 0 1 = cc in omega arith)

    pub corrected_is : (seen : Bool) (es : List Entry) → AllByRecursion Frozen es → map (oriented kind) (records (corrected kind seen es)) ≡ plain_corrected seen (map entry_of es)
    corrected_is seen [] h = refl
    corrected_is seen (e ∷ es) h = corrects e e.row e.verdict (asks e.left e.right) seen (last_of_row e es) (λ s. corrected kind s es) (map entry_of es) h.0.0 h.0.1 (last_is e es h.0.0 h.1) (λ s. corrected_is s es h.1)

  -- ---- marks

  marked_is : (v : Bool) (s : FilterState) → mark_of (marked v s) ≡ plain_marked v (mark_of s)
  marked_is true s = refl
  marked_is false Unvisited = refl
  marked_is false AllFailed = refl
  marked_is false SomePassed = refl

  mark_at_is : (n : ℕ) (v : Bool) (l : List FilterState) → map mark_of (mark_at n v l) ≡ plain_mark_at n v (map mark_of l)
  mark_at_is n v [] = refl
  mark_at_is zero v (s ∷ l) = ap (λ (m : Mark). m ∷ map mark_of l) (marked_is v s)
  mark_at_is (suc n) v (s ∷ l) = ap (λ (q : List Mark). mark_of s ∷ q) (mark_at_is n v l)

  abbrev mark_told : ℕ → plain_entry → List Mark → List Mark
  mark_told base e l = plain_marking base (e ∷ []) l

  mark_verdict_is : (row : Option StreamedRow) (v : Option Bool) (r : Record) (said : Bool) (base : ℕ) (l : List FilterState) → map mark_of (mark_verdict row (verdict_of row v said) (buffered_place kind r - base) l) ≡ mark_told base (told_of row r said) (map mark_of l)
  mark_verdict_is None v r said base l = refl
  mark_verdict_is (Some at) v r said base l = mark_at_is (buffered_place kind r - base) said l

  marking_told : (base : ℕ) (e : plain_entry) (es : List plain_entry) (l : List Mark) → plain_marking base (e ∷ es) l ≡ plain_marking base es (mark_told base e l)
  marking_told base (fixed r) es l = refl
  marking_told base (judged i j v) es l = refl

  -- the states after the verdicts on entries
  pub marking_is : (base : ℕ) (es : List Entry) (l : List FilterState) → map mark_of (marking kind base (judged_all asks es) l) ≡ plain_marking base (map entry_of es) (map mark_of l)
  marking_is base [] l = refl
  marking_is base (e ∷ es) l =
      marking_is base es (mark_verdict e.row (verdict_of e.row e.verdict (asks e.left e.right)) (buffered_place kind e.«record» - base) l)
      ∙ ap (plain_marking base (map entry_of es)) (mark_verdict_is e.row e.verdict e.«record» (asks e.left e.right) base l)
      ∙ sym (marking_told base (entry_of e) (map entry_of es) (map mark_of l))

  length_mark_at : (n : ℕ) (v : Bool) (l : List FilterState) → length (mark_at n v l) ≡ length l
  length_mark_at n v [] = refl
  length_mark_at zero v (s ∷ l) = refl
  length_mark_at (suc n) v (s ∷ l) = ap suc (length_mark_at n v l)

  length_verdict : (row : Option StreamedRow) (v : Option Bool) (n : ℕ) (l : List FilterState) → length (mark_verdict row v n l) ≡ length l
  length_verdict None v n l = refl
  length_verdict (Some at) None n l = refl
  length_verdict (Some at) (Some v) n l = length_mark_at n v l

  pub length_marking : (base : ℕ) (es : List Entry) (l : List FilterState) → length (marking kind base es l) ≡ length l
  length_marking base [] l = refl
  length_marking base (e ∷ es) l = length_marking base es _ ∙ length_verdict e.row e.verdict _ l

  -- ---- lone buffered rows

  -- a noted row is a buffered row alone
  abbrev pub Noted : Entry → Type 0
  Noted e = e ≡ lone (buffered_alone kind (place_of e))

  noted_entry : (e : Entry) → Noted e → entry_of e ≡ fixed (RightAlone (place_of e))
  noted_entry e h = ap entry_of h ∙ ap fixed (oriented_buffered kind (place_of e))

  pub noted_are : (es : List Entry) → AllByRecursion Noted es → map entry_of es ≡ fixeds (alones (map place_of es))
  noted_are [] h = refl
  noted_are (e ∷ es) h = ap (λ (q : plain_entry). q ∷ map entry_of es) (noted_entry e h.0) ∙ ap (λ (q : List plain_entry). fixed (RightAlone (place_of e)) ∷ q) (noted_are es h.1)

  if_failed_is : (s : FilterState) (j : ℕ) → map entry_of (if_failed s j kind) ≡ fixeds (when (is_failing (mark_of s)) (RightAlone j ∷ []))
  if_failed_is Unvisited j = refl
  if_failed_is AllFailed j = ap (λ (r : Record). fixed r ∷ []) (oriented_buffered kind j)
  if_failed_is SomePassed j = refl

  -- the rows whose pairs all failed
  pub failed_are : (j : ℕ) (l : List FilterState) → map entry_of (failed kind j l) ≡ fixeds (failures j (map mark_of l))
  failed_are j [] = refl
  failed_are j (s ∷ l) = map-append entry_of (if_failed s j kind) (failed kind (suc j) l) ∙ ap (λ (q : List plain_entry). q ++ map entry_of (failed kind (suc j) l)) (if_failed_is s j) ∙ ap (λ (q : List plain_entry). fixeds (when (is_failing (mark_of s)) (RightAlone j ∷ [])) ++ q) (failed_are (suc j) l)
      ∙ sym (map-append fixed (when (is_failing (mark_of s)) (RightAlone j ∷ [])) (failures (suc j) (map mark_of l)))
