-- What the pipe's small steps keep.
use Rattle.std.proofs.Common.{◌≡◌, ℕ, zero, suc, ◌+◌, ◌-◌, ◌<◌, ◌≤◌, Bool, true, false, cond, not, ltb, leb, ◌⊎◌, List, [], ◌∷◌, ◌++◌, length, take, drop, filter, sym, refl, ap, ◌∙◌, subst, inl, inr, append_assoc, append-nil, arith, length-append, length-drop, take-append-drop}
use Rattle.std.proofs.lemmas.List.Filters.{length-filter_both}
use Rattle.std.proofs.lemmas.List.{length-map, map-append, take-append-le, drop-append-le, length-take-le, nil_from_length}
use Rattle.std.proofs.Math.Nat.{add-zero}
use Rattle.std.specs.List.{AllByRecursion}
use Rattle.std.proofs.ByRecursion.{All-append, All-weaker, All-push}
use Rattle.std.proofs.lemmas.Bool.{ne_eqb, leb-true, leb-false, lt-ltb, le-ltb}
use Rattle.merge.specs.Table.{when}
use Rattle.rows.specs.declared.record.Record.{Record}
use Rattle.rows.specs.declared.record.Record.TheVariants.{Pair, LeftAlone, RightAlone}
use Rattle.law.specs.Pipe.{Entry, fixed, judged, Mark, unseen, failing, met, marking, goes_on, corrected, plain, settled, alones, fixeds, failures, Pipe, pipe, put, freeze, freeze_all, correct, flush, freeze_full, push, note, part}
use Rattle.law.specs.Pipe.{mark_at, Left, left, giving, leave, first_leaves, given_by}
use Rattle.law.specs.Machine.{total_size, base_of, is_full}
use Rattle.law.proofs.Totals.{shift, total, total_append}

-- ---- settling, part by part

abbrev pub Below : ℕ → Entry → Type 0
Below k (fixed r) = Unit {0}
Below k (judged i j v) = i < k

abbrev pub From : ℕ → Entry → Type 0
From k (fixed r) = Unit {0}
From k (judged i j v) = k ≤ i

abbrev leads : Entry → List Entry → Bool
leads (fixed r) l = false
leads (judged i j v) l = goes_on i l

abbrev pub Apart : List Entry → List Entry → Type 0
Apart a b = AllByRecursion (λ e. leads e b ≡ false) a

pub apart_none : (a b : List Entry) → ((i : ℕ) → goes_on i b ≡ false) → Apart a b
apart_none [] b h = tt
apart_none (fixed r ∷ a) b h = (refl, apart_none a b h)
apart_none (judged i j v ∷ a) b h = (h i, apart_none a b h)

starts_past : (k i : ℕ) (b : List Entry) → i < k → AllByRecursion (From k) b → goes_on i b ≡ false
starts_past k i [] l h = refl
starts_past k i (fixed r ∷ b) l h = refl
starts_past k i (judged m j v ∷ b) l h = ne_eqb i m (λ e. omega (arith, h.0))

pub apart_cut : (k : ℕ) (a b : List Entry) → AllByRecursion (Below k) a → AllByRecursion (From k) b → Apart a b
apart_cut k [] b h g = tt
apart_cut k (fixed r ∷ a) b h g = (refl, apart_cut k a b h.1 g)
apart_cut k (judged i j v ∷ a) b h g = (starts_past k i b h.0 g, apart_cut k a b h.1 g)

goes_same : (i : ℕ) (e : Entry) (a b : List Entry) → goes_on i (e ∷ a) ≡ goes_on i (e ∷ b)
goes_same i (fixed r) a b = refl
goes_same i (judged k j v) a b = refl

corrected_apart : (seen : Bool) (e : Entry) (a b : List Entry) → Apart (e ∷ a) b → corrected seen (e ∷ (a ++ b)) ≡ corrected seen (e ∷ a) ++ corrected false b
corrected_apart seen (fixed r) [] b h = refl
corrected_apart seen (fixed r) (e ∷ a) b h = ap (λ (l : List Record). r ∷ l) (corrected_apart false e a b h.1)
corrected_apart seen (judged i j true) [] b h = rw h.0
corrected_apart seen (judged i j true) (e ∷ a) b h = rw (goes_same i e (a ++ b) a) (ap (λ (l : List Record). Pair i j ∷ l) (corrected_apart (goes_on i (e ∷ a)) e a b h.1))
corrected_apart seen (judged i j false) [] b h = rw h.0 (ap (λ (l : List Record). l ++ corrected false b) (sym (append-nil (when (not seen) (LeftAlone i ∷ [])))))
corrected_apart seen (judged i j false) (e ∷ a) b h = rw (goes_same i e (a ++ b) a) (go (goes_on i (e ∷ a)) (corrected_apart seen e a b h.1) (corrected_apart false e a b h.1))
  where
    go : (t : Bool) → corrected seen (e ∷ (a ++ b)) ≡ corrected seen (e ∷ a) ++ corrected false b → corrected false (e ∷ (a ++ b)) ≡ corrected false (e ∷ a) ++ corrected false b
        → cond t (corrected seen (e ∷ (a ++ b))) (when (not seen) (LeftAlone i ∷ []) ++ corrected false (e ∷ (a ++ b))) ≡ cond t (corrected seen (e ∷ a)) (when (not seen) (LeftAlone i ∷ []) ++ corrected false (e ∷ a)) ++ corrected false b
    go true p q = p
    go false p q = ap (λ (l : List Record). when (not seen) (LeftAlone i ∷ []) ++ l) q ∙ sym (append_assoc (when (not seen) (LeftAlone i ∷ [])) _ _)

plain_append : (a b : List Entry) → plain (a ++ b) ≡ plain a ++ plain b
plain_append [] b = refl
plain_append (fixed r ∷ a) b = ap (λ (l : List Record). r ∷ l) (plain_append a b)
plain_append (judged i j v ∷ a) b = ap (λ (l : List Record). when v (Pair i j ∷ []) ++ l) (plain_append a b) ∙ sym (append_assoc (when v (Pair i j ∷ [])) _ _)

pub settled_apart : (d : Bool) (a b : List Entry) → Apart a b → settled d (a ++ b) ≡ settled d a ++ settled d b
settled_apart true [] b h = refl
settled_apart true (e ∷ a) b h = corrected_apart false e a b h
settled_apart false a b h = plain_append a b

settled_fixeds : (d : Bool) (l : List Record) (b : List Entry) → settled d (fixeds l ++ b) ≡ l ++ settled d b
settled_fixeds true [] b = refl
settled_fixeds true (r ∷ l) b = ap (λ (m : List Record). r ∷ m) (settled_fixeds true l b)
settled_fixeds false [] b = refl
settled_fixeds false (r ∷ l) b = ap (λ (m : List Record). r ∷ m) (settled_fixeds false l b)

module _ (f : Record → ℕ) where
  abbrev pub worth : Bool → List Entry → ℕ
  worth d l = total f (settled d l)

  pub worth_apart : (d : Bool) (a b : List Entry) → Apart a b → worth d (a ++ b) ≡ worth d a + worth d b
  worth_apart d a b h = ap (total f) (settled_apart d a b h) ∙ total_append f (settled d a) (settled d b)

  pub worth_plain : (a b : List Entry) → worth false (a ++ b) ≡ worth false a + worth false b
  worth_plain a b = ap (total f) (plain_append a b) ∙ total_append f (plain a) (plain b)

  worth_fixeds : (d : Bool) (l : List Record) (b : List Entry) → worth d (fixeds l ++ b) ≡ total f l + worth d b
  worth_fixeds d l b = ap (total f) (settled_fixeds d l b) ∙ total_append f l (settled d b)

  -- lone records behind whatever stands before them
  pub worth_behind : (d : Bool) (a : List Entry) (l : List Record) → worth d (a ++ fixeds l) ≡ worth d a + total f l
  worth_behind d a [] = rw append-nil (omega arith)
  worth_behind d a (r ∷ l) = worth_apart d a (fixeds (r ∷ l)) (apart_none a _ (λ i. refl)) ∙ ap (λ (n : ℕ). worth d a + n) (ap (worth d) (sym (append-nil (fixeds (r ∷ l)))) ∙ worth_fixeds d (r ∷ l) [] ∙ last d)
    where
      last : (d : Bool) → total f (r ∷ l) + worth d [] ≡ total f (r ∷ l)
      last true = omega arith
      last false = omega arith

  -- lone records put where no row's pairs go on
  pub worth_between : (d : Bool) (a : List Entry) (l : List Record) (b : List Entry) → (l ≡ []) ⊎ Apart a b → worth d (a ++ (fixeds l ++ b)) ≡ worth d (a ++ b) + total f l
  worth_between d a [] b h = omega arith
  worth_between d a (r ∷ l) b (inl e) = cc
  worth_between d a (r ∷ l) b (inr h) = omega (arith, worth_apart d a (fixeds (r ∷ l) ++ b) (apart_none a _ (λ i. refl)), worth_fixeds d (r ∷ l) b, worth_apart d a b h)

-- ---- where the groups of pairs stand

-- `group` is what the row at `place` has in the pipe so far
pub data Mode (size place : ℕ) (group : List Entry) (noted : List ℕ) (unfrozen entries : List Entry) : Type 0 where
  clean : (u : List Entry) (k : ℕ) → unfrozen ≡ u ++ group → k ≤ place → AllByRecursion (Below k) entries → AllByRecursion (From k) u → AllByRecursion (Below place) u → Mode size place group noted unfrozen entries
  full : (a : List Entry) → noted ≡ [] → size ≤ length entries → entries ++ unfrozen ≡ a ++ group → AllByRecursion (Below place) a → Mode size place group noted unfrozen entries

abbrev pub ModeOf : Bool → ℕ → ℕ → List Entry → List ℕ → List Entry → List Entry → Type 0
ModeOf true size place group noted unfrozen entries = Mode size place group noted unfrozen entries
ModeOf false size place group noted unfrozen entries = entries ≡ []

abbrev pub Moded : Bool → ℕ → ℕ → List Entry → Pipe → Type 0
Moded d size place group (pipe base marks noted unfrozen entries due) = ModeOf d size place group noted unfrozen entries

-- the verdicts at hand are of rows that are held
abbrev pub Inside : ℕ → ℕ → Entry → Type 0
Inside base n (fixed r) = Unit {0}
Inside base n (judged i j v) = j - base < n

abbrev pub Ranged : Pipe → Type 0
Ranged (pipe base marks noted unfrozen entries due) = AllByRecursion (Inside base (length marks)) unfrozen

-- entries of the row at `place`
abbrev pub Own : ℕ → Entry → Type 0
Own place e = From place e × Below (suc place) e

below_more : (k m : ℕ) → k ≤ m → (e : Entry) → Below k e → Below m e
below_more k m l (fixed r) h = tt
below_more k m l (judged i j v) h = omega arith

from_less : (k m : ℕ) → k ≤ m → (e : Entry) → From m e → From k e
from_less k m l (fixed r) h = tt
from_less k m l (judged i j v) h = omega arith

pub below_all : (k m : ℕ) → k ≤ m → (a : List Entry) → AllByRecursion (Below k) a → AllByRecursion (Below m) a
below_all k m l a h = All-weaker (Below k) (Below m) (below_more k m l) a h

pub below_fixeds : (k : ℕ) (l : List Record) → AllByRecursion (Below k) (fixeds l)
below_fixeds k [] = tt
below_fixeds k (r ∷ l) = (tt, below_fixeds k l)

-- what is in the pipe before the current group, and the group
pub parts : {size place : ℕ} {group : List Entry} {noted : List ℕ} {unfrozen entries : List Entry} → Mode size place group noted unfrozen entries → (a : List Entry) × (entries ++ unfrozen ≡ a ++ group) × AllByRecursion (Below place) a
parts {place = place} {group = group} {entries = entries} (clean u k e l h g b) = (entries ++ u, rw e (sym (append_assoc entries u group)), All-append _ entries u (below_all k place l entries h) b)
parts (full a n l e b) = (a, e, b)

none_alone : (l : List ℕ) → l ≡ [] → alones l ≡ []
none_alone [] e = refl
none_alone (j ∷ l) e = cc

module _ (size place : ℕ) (group : List Entry) (own : AllByRecursion (Own place) group) where
  from_group : AllByRecursion (From place) group
  from_group = All-weaker (Own place) (From place) (λ e h. h.0) group own

  below_group : AllByRecursion (Below (suc place)) group
  below_group = All-weaker (Own place) (Below (suc place)) (λ e h. h.1) group own

  pub mode_push : (e : Entry) {noted : List ℕ} {unfrozen entries : List Entry} → Mode size place group noted unfrozen entries → Mode size place (group ++ e ∷ []) noted (unfrozen ++ e ∷ []) entries
  mode_push e {unfrozen = unfrozen} {entries = entries} (clean u k q l h g b) = clean u k (rw q (append_assoc u group (e ∷ []))) l h g b
  mode_push e {unfrozen = unfrozen} {entries = entries} (full a n l q b) = full a n l (sym (append_assoc entries unfrozen (e ∷ [])) ∙ ap (λ (m : List Entry). m ++ e ∷ []) q ∙ append_assoc a group (e ∷ [])) b

  -- the worth of a pushed entry
  pub worth_push : (f : Record → ℕ) (d : Bool) (e : Entry) → Own place e → (base : ℕ) (marks : List Mark) (noted : List ℕ) (unfrozen entries : List Entry) (due : List Record) → Moded d size place group (pipe base marks noted unfrozen entries due)
      → worth f d (entries ++ (unfrozen ++ e ∷ [])) + worth f d group ≡ worth f d (entries ++ unfrozen) + worth f d (group ++ e ∷ [])
  worth_push f true e o base marks noted unfrozen entries due m =
      let p = parts m in
      let q : entries ++ (unfrozen ++ e ∷ []) ≡ p.0 ++ (group ++ e ∷ []) = sym (append_assoc entries unfrozen (e ∷ [])) ∙ ap (λ (l : List Entry). l ++ e ∷ []) p.1 ∙ append_assoc p.0 group (e ∷ []) in
      omega (arith, ap (worth f true) q, ap (worth f true) p.1, worth_apart f true p.0 group (apart_cut place p.0 group p.2 from_group), worth_apart f true p.0 (group ++ e ∷ []) (apart_cut place p.0 _ p.2 (All-push _ group e from_group o.0)))
  worth_push f false e o base marks noted unfrozen entries due m =
      omega (arith, worth_plain f entries (unfrozen ++ e ∷ []), worth_plain f unfrozen (e ∷ []), worth_plain f entries unfrozen, worth_plain f group (e ∷ []))

  mode_apart : {noted : List ℕ} {unfrozen entries : List Entry} → Mode size place group noted unfrozen entries → (alones noted ≡ []) ⊎ Apart entries unfrozen
  mode_apart {entries = entries} (clean u k q l h g b) = inr (apart_cut k entries _ h (rw q (All-append _ u group g (All-weaker (From place) (From k) (from_less k place l) group from_group))))
  mode_apart {noted = noted} (full a n l q b) = inl (none_alone noted n)

  pub worth_freeze_all : (f : Record → ℕ) (noted : List ℕ) (unfrozen entries : List Entry) → Mode size place group noted unfrozen entries
      → worth f true (entries ++ (fixeds (alones noted) ++ unfrozen)) ≡ worth f true (entries ++ unfrozen) + total f (alones noted)
  worth_freeze_all f noted unfrozen entries m = worth_between f true entries (alones noted) unfrozen (mode_apart m)

  longer : (a b c : List Entry) (n : ℕ) → n ≤ length c → n ≤ length (a ++ (b ++ c))
  longer a b c n h = simp length-append (omega arith)

  pub mode_freeze_all : {noted : List ℕ} {unfrozen entries : List Entry} → size ≤ length unfrozen → Mode size place group noted unfrozen entries → Mode size place group [] [] (entries ++ (fixeds (alones noted) ++ unfrozen))
  mode_freeze_all {noted = noted} {unfrozen = unfrozen} {entries = entries} s (clean u k q l h g b) =
      full (entries ++ (fixeds (alones noted) ++ u)) refl (longer entries (fixeds (alones noted)) unfrozen size s)
      (append-nil _ ∙ rw q (sym (append_assoc entries (fixeds (alones noted) ++ u) group ∙ ap (λ (m : List Entry). entries ++ m) (append_assoc (fixeds (alones noted)) u group))))
      (All-append _ entries _ (below_all k place l entries h) (All-append _ (fixeds (alones noted)) u (below_fixeds place (alones noted)) b))
  mode_freeze_all {noted = noted} {unfrozen = unfrozen} {entries = entries} s (full a n l q b) =
      full a refl (longer entries (fixeds (alones noted)) unfrozen size s) (append-nil _ ∙ rw (none_alone noted n) q) b

  -- the row is passed: its group is one of those before
  pub mode_passed : {noted : List ℕ} {unfrozen entries : List Entry} → Mode size place group noted unfrozen entries → Mode size (suc place) [] noted unfrozen entries
  mode_passed {unfrozen = unfrozen} {entries = entries} (clean u k q l h g b) =
      clean (u ++ group) k (q ∙ sym (append-nil (u ++ group))) (omega arith) h (All-append _ u group g (All-weaker (From place) (From k) (from_less k place l) group from_group)) (All-append _ u group (below_all place (suc place) (omega arith) u b) below_group)
  mode_passed {unfrozen = unfrozen} {entries = entries} (full a n l q b) =
      full (a ++ group) n l (q ∙ sym (append-nil (a ++ group))) (All-append _ a group (below_all place (suc place) (omega arith) a b) below_group)

module _ (size place : ℕ) where
  unfrozen_below : (u unfrozen : List Entry) → unfrozen ≡ u ++ [] → AllByRecursion (Below place) u → AllByRecursion (Below place) unfrozen
  unfrozen_below u unfrozen q b = rw (q ∙ append-nil u) b

  pub mode_freeze : {noted : List ℕ} {unfrozen entries : List Entry} → Mode size place [] noted unfrozen entries → Mode size place [] noted [] (entries ++ unfrozen)
  mode_freeze {unfrozen = unfrozen} {entries = entries} (clean u k q l h g b) = clean [] place refl (omega arith) (All-append _ entries unfrozen (below_all k place l entries h) (unfrozen_below u unfrozen q b)) tt tt
  mode_freeze {unfrozen = unfrozen} {entries = entries} (full a n l q b) = full a n (simp length-append (omega arith)) (append-nil _ ∙ q) b

  pub mode_empty : {noted : List ℕ} → Mode size place [] noted [] []
  mode_empty = clean [] 0 refl (omega arith) tt tt tt

  -- with fewer than the batch size in the pipe no row's pairs stand on both sides
  pub mode_note : (more : List ℕ) {noted : List ℕ} {unfrozen entries : List Entry} → length unfrozen + length entries < size → Mode size place [] noted unfrozen entries → Mode size place [] (noted ++ more) unfrozen entries
  mode_note more s (clean u k q l h g b) = clean u k q l h g b
  mode_note more s (full a n l q b) = absurd (omega arith)

  pub mode_part : (l : List Record) (rest : List ℕ) {noted : List ℕ} {unfrozen entries : List Entry} → Mode size place [] noted unfrozen entries → Mode size place [] rest [] (entries ++ (unfrozen ++ fixeds l))
  mode_part r rest {unfrozen = unfrozen} {entries = entries} m =
      let p = parts m in
      clean [] place refl (omega arith) (rw (sym (append_assoc entries unfrozen (fixeds r)) ∙ ap (λ (x : List Entry). x ++ fixeds r) (p.1 ∙ append-nil p.0)) (All-append _ p.0 (fixeds r) p.2 (below_fixeds place r))) tt tt

-- ---- whole steps of the pipe

-- the marks once all the verdicts at hand are in
abbrev pub marks_of : Pipe → List Mark
marks_of (pipe base marks noted unfrozen entries due) = marking base unfrozen marks

abbrev pub worth_of : (Record → ℕ) → Bool → Pipe → ℕ
worth_of f d (pipe base marks noted unfrozen entries due) = total f due + (worth f d (entries ++ unfrozen) + total f (alones noted))

pub marking_append : (base : ℕ) (a b : List Entry) (l : List Mark) → marking base (a ++ b) l ≡ marking base b (marking base a l)
marking_append base [] b l = refl
marking_append base (fixed r ∷ a) b l = marking_append base a b l
marking_append base (judged i j v ∷ a) b l = marking_append base a b _

pub worth_none : (f : Record → ℕ) (d : Bool) → worth f d [] ≡ 0
worth_none f true = refl
worth_none f false = refl

worth_tail : (f : Record → ℕ) (d : Bool) (a : List Entry) → worth f d (a ++ []) ≡ worth f d a
worth_tail f d a = ap (worth f d) (append-nil a)

-- ---- how much is in the pipe

abbrev pub noted_of : Pipe → List ℕ
noted_of (pipe base marks noted unfrozen entries due) = noted

abbrev pub unfrozen_of : Pipe → List Entry
unfrozen_of (pipe base marks noted unfrozen entries due) = unfrozen

abbrev pub due_of : Pipe → List Record
due_of (pipe base marks noted unfrozen entries due) = due

abbrev pub size_of : Pipe → ℕ
size_of (pipe base marks noted unfrozen entries due) = length due + (length entries + (length unfrozen + length noted))

pub corrected_short : (seen : Bool) (l : List Entry) → length (corrected seen l) ≤ length l
corrected_short seen [] = omega arith
corrected_short seen (fixed r ∷ l) = omega (arith, corrected_short false l)
corrected_short seen (judged i j true ∷ l) = omega (arith, corrected_short (goes_on i l) l)
corrected_short seen (judged i j false ∷ l) = go (goes_on i l) seen (corrected_short seen l) (corrected_short false l)
  where
    go : (t s : Bool) → length (corrected seen l) ≤ length l → length (corrected false l) ≤ length l → length (cond t (corrected seen l) (when (not s) (LeftAlone i ∷ []) ++ corrected false l)) ≤ suc (length l)
    go true s a b = omega arith
    go false true a b = omega arith
    go false false a b = omega arith

pub plain_short : (l : List Entry) → length (plain l) ≤ length l
plain_short [] = omega arith
plain_short (fixed r ∷ l) = omega (arith, plain_short l)
plain_short (judged i j true ∷ l) = omega (arith, plain_short l)
plain_short (judged i j false ∷ l) = omega (arith, plain_short l)

pub lone_entries : (noted : List ℕ) (unfrozen : List Entry) → length (fixeds (alones noted) ++ unfrozen) ≡ length noted + length unfrozen
lone_entries noted unfrozen = omega (arith, length-append (fixeds (alones noted)) unfrozen, length-map (alones noted) fixed, length-map noted RightAlone)

-- a step that adds nothing
pub record Smaller (p q : Pipe) : Type 0 where
  pub sizes : size_of q ≤ size_of p
  pub noted : (f : ℕ → ℕ) → total f (noted_of q) ≤ total f (noted_of p)
  pub short : length (unfrozen_of q) ≤ length (unfrozen_of p)

smaller_all : (d : Bool) (base : ℕ) (marks : List Mark) (noted : List ℕ) (unfrozen entries : List Entry) (due : List Record) → Smaller (pipe base marks noted unfrozen entries due) (freeze_all d (pipe base marks noted unfrozen entries due))
smaller_all true base marks noted unfrozen entries due = record { sizes = omega (arith, length-append entries (fixeds (alones noted) ++ unfrozen), lone_entries noted unfrozen); noted = λ f. omega arith; short = omega arith }
smaller_all false base marks noted unfrozen entries due = record { sizes = omega (arith, length-append due (plain (fixeds (alones noted) ++ unfrozen)), plain_short (fixeds (alones noted) ++ unfrozen), lone_entries noted unfrozen); noted = λ f. omega arith; short = omega arith }

smaller_freeze : (d : Bool) (p : Pipe) → Smaller p (freeze d p)
smaller_freeze true (pipe base marks noted unfrozen entries due) = record { sizes = omega (arith, length-append entries unfrozen); noted = λ f. omega arith; short = omega arith }
smaller_freeze false (pipe base marks noted unfrozen entries due) = record { sizes = omega (arith, length-append due (plain unfrozen), plain_short unfrozen); noted = λ f. omega arith; short = omega arith }

smaller_flush : (d : Bool) (p : Pipe) → Smaller p (flush d p)
smaller_flush true (pipe base marks noted unfrozen entries due) = record {
  sizes = omega (arith, length-append due (corrected false (entries ++ (fixeds (alones noted) ++ unfrozen))), corrected_short false (entries ++ (fixeds (alones noted) ++ unfrozen)), length-append entries (fixeds (alones noted) ++ unfrozen), lone_entries noted unfrozen);
  noted = λ f. omega arith;
  short = omega arith;
}
smaller_flush false (pipe base marks noted unfrozen entries due) = record {
  sizes = omega (arith, length-append (due ++ plain (fixeds (alones noted) ++ unfrozen)) (corrected false entries), corrected_short false entries, length-append due (plain (fixeds (alones noted) ++ unfrozen)), plain_short (fixeds (alones noted) ++ unfrozen), lone_entries noted unfrozen);
  noted = λ f. omega arith;
  short = omega arith;
}

-- a step that adds one entry
pub record Grown (size : ℕ) (p q : Pipe) : Type 0 where
  pub sizes : size_of q ≤ size_of p + 1
  pub noted : (f : ℕ → ℕ) → total f (noted_of q) ≤ total f (noted_of p)
  pub short : 1 ≤ size → length (unfrozen_of q) < size

pub grown : (d : Bool) (size : ℕ) (e : Entry) (p : Pipe) → Grown size p (push d size e p)
grown d size e (pipe base marks noted unfrozen entries due) = go (leb size (length (unfrozen ++ e ∷ []))) refl (smaller_all d base marks noted (unfrozen ++ e ∷ []) entries due) (none d)
  where
    none : (d : Bool) → length (unfrozen_of (freeze_all d (pipe base marks noted (unfrozen ++ e ∷ []) entries due))) ≡ 0
    none true = refl
    none false = refl

    go : (t : Bool) → leb size (length (unfrozen ++ e ∷ [])) ≡ t → Smaller (pipe base marks noted (unfrozen ++ e ∷ []) entries due) (freeze_all d (pipe base marks noted (unfrozen ++ e ∷ []) entries due)) → length (unfrozen_of (freeze_all d (pipe base marks noted (unfrozen ++ e ∷ []) entries due))) ≡ 0
        → Grown size (pipe base marks noted unfrozen entries due) (cond t (freeze_all d (pipe base marks noted (unfrozen ++ e ∷ []) entries due)) (pipe base marks noted (unfrozen ++ e ∷ []) entries due))
    go true q s z = record { sizes = omega (arith, s.sizes, length-append unfrozen (e ∷ [])); noted = s.noted; short = λ l. omega arith }
    go false q s z = record { sizes = omega (arith, length-append unfrozen (e ∷ [])); noted = λ f. omega arith; short = λ l. leb-false _ _ q }

-- the places, from j on, of the rows not paired yet
abbrev is_unseen : Mark → Bool
is_unseen unseen = true
is_unseen failing = false
is_unseen met = false

abbrev pub unseens : ℕ → List Mark → List ℕ
unseens j [] = []
unseens j (m ∷ l) = when (is_unseen m) (j ∷ []) ++ unseens (suc j) l

abbrev pub fails_in : List Mark → ℕ
fails_in [] = 0
fails_in (unseen ∷ l) = fails_in l
fails_in (failing ∷ l) = suc (fails_in l)
fails_in (met ∷ l) = fails_in l

pub length_total : (l : List ℕ) → total (λ j. 1) l ≡ length l
length_total [] = refl
length_total (j ∷ l) = omega (arith, length_total l)

pub unseen_few : (j : ℕ) (l : List Mark) → total (λ j. 1) (unseens j l) + fails_in l ≤ length l
unseen_few j [] = omega arith
unseen_few j (unseen ∷ l) = omega (arith, unseen_few (suc j) l)
unseen_few j (failing ∷ l) = omega (arith, unseen_few (suc j) l)
unseen_few j (met ∷ l) = omega (arith, unseen_few (suc j) l)

pub unseens_total : (f : ℕ → ℕ) (j : ℕ) (a b : List Mark) → total f (unseens j (a ++ b)) ≡ total f (unseens j a) + total f (unseens (j + length a) b)
unseens_total f j [] b = omega (arith, ap (λ (k : ℕ). total f (unseens k b)) (add-zero j))
unseens_total f j (m ∷ a) b = omega (arith, total_append f (when (is_unseen m) (j ∷ [])) (unseens (suc j) (a ++ b)), total_append f (when (is_unseen m) (j ∷ [])) (unseens (suc j) a), unseens_total f (suc j) a b, ap (λ (k : ℕ). total f (unseens k b)) (shift j (length a)))

fails_append : (a b : List Mark) → fails_in (a ++ b) ≡ fails_in a + fails_in b
fails_append [] b = omega arith
fails_append (unseen ∷ a) b = fails_append a b
fails_append (failing ∷ a) b = omega (arith, fails_append a b)
fails_append (met ∷ a) b = fails_append a b

pub failures_count : (keeps : Bool) (j : ℕ) (l : List Mark) → length (when keeps (failures j l)) ≤ fails_in l
failures_count true j [] = omega arith
failures_count true j (unseen ∷ l) = failures_count true (suc j) l
failures_count true j (failing ∷ l) = omega (arith, failures_count true (suc j) l)
failures_count true j (met ∷ l) = failures_count true (suc j) l
failures_count false j l = omega arith

-- weights that count from a place on
abbrev pub past : (ℕ → ℕ) → ℕ → ℕ → ℕ
past f e j = cond (not (ltb j e)) (f j) 0

kept_total : (f : ℕ → ℕ) (e : ℕ) (l : List ℕ) → total f (filter (λ j. not (ltb j e)) l) ≡ total (past f e) l
kept_total f e [] = refl
kept_total f e (j ∷ l) = go (not (ltb j e)) (kept_total f e l)
  where
    go : (t : Bool) → total f (filter (λ j. not (ltb j e)) l) ≡ total (past f e) l → total f (cond t (j ∷ filter (λ j. not (ltb j e)) l) (filter (λ j. not (ltb j e)) l)) ≡ cond t (f j) 0 + total (past f e) l
    go true q = omega arith
    go false q = omega arith

pub past_none : (f : ℕ → ℕ) (e j : ℕ) (l : List Mark) → j + length l ≤ e → total (past f e) (unseens j l) ≡ 0
past_none f e j [] h = refl
past_none f e j (unseen ∷ l) h = rw (lt-ltb j e (omega arith)) (omega (arith, past_none f e (suc j) l (omega arith)))
past_none f e j (failing ∷ l) h = past_none f e (suc j) l (omega arith)
past_none f e j (met ∷ l) h = past_none f e (suc j) l (omega arith)

pub past_all : (f : ℕ → ℕ) (e j : ℕ) (l : List Mark) → e ≤ j → total (past f e) (unseens j l) ≡ total f (unseens j l)
past_all f e j [] h = refl
past_all f e j (unseen ∷ l) h = rw (le-ltb j e h) (ap (λ (n : ℕ). f j + n) (past_all f e (suc j) l (omega arith)))
past_all f e j (failing ∷ l) h = past_all f e (suc j) l (omega arith)
past_all f e j (met ∷ l) h = past_all f e (suc j) l (omega arith)

all_worth : (f : Record → ℕ) (d : Bool) (size place : ℕ) (group : List Entry) → AllByRecursion (Own place) group → (base : ℕ) (marks : List Mark) (noted : List ℕ) (unfrozen entries : List Entry) (due : List Record) → Moded d size place group (pipe base marks noted unfrozen entries due)
    → worth_of f d (freeze_all d (pipe base marks noted unfrozen entries due)) ≡ worth_of f d (pipe base marks noted unfrozen entries due)
all_worth f true size place group own base marks noted unfrozen entries due m = omega (arith, worth_tail f true (entries ++ (fixeds (alones noted) ++ unfrozen)), worth_freeze_all size place group own f noted unfrozen entries m)
all_worth f false size place group own base marks noted unfrozen entries due m =
    omega (arith, worth_tail f false entries, total_append f due (plain (fixeds (alones noted) ++ unfrozen)), worth_fixeds f false (alones noted) unfrozen, worth_plain f entries unfrozen)

pub record Pushed (d : Bool) (size place : ℕ) (group : List Entry) (e : Entry) (p q : Pipe) : Type 0 where
  pub mode : Moded d size place (group ++ e ∷ []) q
  pub worths : (f : Record → ℕ) → worth_of f d q + worth f d group ≡ worth_of f d p + worth f d (group ++ e ∷ [])
  pub marks : marks_of q ≡ marking (base_of p) (e ∷ []) (marks_of p)
  pub base : base_of q ≡ base_of p
  pub range : Ranged q

all_range : (d : Bool) (base : ℕ) (marks : List Mark) (noted : List ℕ) (unfrozen entries : List Entry) (due : List Record) → Ranged (freeze_all d (pipe base marks noted unfrozen entries due))
all_range true base marks noted unfrozen entries due = tt
all_range false base marks noted unfrozen entries due = tt

pub length_mark : (n : ℕ) (v : Bool) (l : List Mark) → length (mark_at n v l) ≡ length l
length_mark n v [] = refl
length_mark zero v (m ∷ l) = refl
length_mark (suc n) v (m ∷ l) = ap suc (length_mark n v l)

pub length_marking : (base : ℕ) (u : List Entry) (l : List Mark) → length (marking base u l) ≡ length l
length_marking base [] l = refl
length_marking base (fixed r ∷ u) l = length_marking base u l
length_marking base (judged i j v ∷ u) l = length_marking base u _ ∙ length_mark (j - base) v l

all_mode : (d : Bool) (size place : ℕ) (group : List Entry) → AllByRecursion (Own place) group → (base : ℕ) (marks : List Mark) (noted : List ℕ) (unfrozen entries : List Entry) (due : List Record) → size ≤ length unfrozen → Moded d size place group (pipe base marks noted unfrozen entries due) → Moded d size place group (freeze_all d (pipe base marks noted unfrozen entries due))
all_mode true size place group own base marks noted unfrozen entries due l m = mode_freeze_all size place group own l m
all_mode false size place group own base marks noted unfrozen entries due l m = m

all_marks : (d : Bool) (base : ℕ) (marks : List Mark) (noted : List ℕ) (unfrozen entries : List Entry) (due : List Record) → (marks_of (freeze_all d (pipe base marks noted unfrozen entries due)) ≡ marking base unfrozen marks) × (base_of (freeze_all d (pipe base marks noted unfrozen entries due)) ≡ base)
all_marks true base marks noted unfrozen entries due = (refl, refl)
all_marks false base marks noted unfrozen entries due = (refl, refl)

pub pushed : (d : Bool) (size place : ℕ) (group : List Entry) → AllByRecursion (Own place) group → (e : Entry) → Own place e → (p : Pipe) → Moded d size place group p → Ranged p → Inside (base_of p) (length (marks_of p)) e → Pushed d size place group e p (push d size e p)
pushed d size place group own e o (pipe base marks noted unfrozen entries due) m ranged inside = go (leb size (length (unfrozen ++ e ∷ []))) refl
  where
    more : List Entry
    more = unfrozen ++ e ∷ []

    own' : AllByRecursion (Own place) (group ++ e ∷ [])
    own' = All-push _ group e own o

    mode' : Moded d size place (group ++ e ∷ []) (pipe base marks noted (unfrozen ++ e ∷ []) entries due)
    mode' = in_mode d m
      where
        in_mode : (d : Bool) → Moded d size place group (pipe base marks noted unfrozen entries due) → Moded d size place (group ++ e ∷ []) (pipe base marks noted (unfrozen ++ e ∷ []) entries due)
        in_mode true m = mode_push size place group own e m
        in_mode false m = m

    worths' : (f : Record → ℕ) → worth_of f d (pipe base marks noted (unfrozen ++ e ∷ []) entries due) + worth f d group ≡ worth_of f d (pipe base marks noted unfrozen entries due) + worth f d (group ++ e ∷ [])
    worths' f = omega (arith, worth_push size place group own f d e o base marks noted unfrozen entries due m)

    go : (t : Bool) → leb size (length (unfrozen ++ e ∷ [])) ≡ t → Pushed d size place group e (pipe base marks noted unfrozen entries due) (cond t (freeze_all d (pipe base marks noted (unfrozen ++ e ∷ []) entries due)) (pipe base marks noted (unfrozen ++ e ∷ []) entries due))
    go true q = record {
      mode = all_mode d size place (group ++ e ∷ []) own' base marks noted (unfrozen ++ e ∷ []) entries due (leb-true _ _ q) mode';
      worths = λ f. omega (arith, worths' f, all_worth f d size place (group ++ e ∷ []) own' base marks noted (unfrozen ++ e ∷ []) entries due mode');
      marks = (all_marks d base marks noted (unfrozen ++ e ∷ []) entries due).0 ∙ marking_append base unfrozen (e ∷ []) marks;
      base = (all_marks d base marks noted (unfrozen ++ e ∷ []) entries due).1;
      range = all_range d base marks noted (unfrozen ++ e ∷ []) entries due;
    }
    go false q = record { mode = mode'; worths = worths'; marks = marking_append base unfrozen (e ∷ []) marks; base = refl; range = All-push _ unfrozen e ranged (subst (λ n. Inside base n e) (length_marking base unfrozen marks) inside) }

-- what a step keeps that freezes
pub record Frozen (d : Bool) (size place : ℕ) (p q : Pipe) : Type 0 where
  pub mode : Moded d size place [] q
  pub worths : (f : Record → ℕ) → worth_of f d q ≡ worth_of f d p
  pub marks : marks_of q ≡ marks_of p
  pub base : base_of q ≡ base_of p
  pub range : Ranged q
  pub smaller : Smaller p q

pub frozen : (d : Bool) (size place : ℕ) (p : Pipe) → Moded d size place [] p → Frozen d size place p (freeze d p)
frozen true size place (pipe base marks noted unfrozen entries due) m = record { mode = mode_freeze size place m; worths = λ f. omega (arith, worth_tail f true (entries ++ unfrozen)); marks = refl; base = refl; range = tt; smaller = smaller_freeze true (pipe base marks noted unfrozen entries due) }
frozen false size place (pipe base marks noted unfrozen entries due) m = record { mode = m; worths = λ f. omega (arith, worth_tail f false entries, total_append f due (plain unfrozen), worth_plain f entries unfrozen); marks = refl; base = refl; range = tt; smaller = smaller_freeze false (pipe base marks noted unfrozen entries due) }

-- nothing is left but what is due
abbrev pub OnlyDue : Pipe → Type 0
OnlyDue (pipe base marks noted unfrozen entries due) = (noted ≡ []) × (unfrozen ≡ []) × (entries ≡ [])

pub flushed : (d : Bool) (size place : ℕ) (p : Pipe) → Moded d size place [] p → Frozen d size place p (flush d p) × OnlyDue (flush d p)
flushed true size place (pipe base marks noted unfrozen entries due) m = (
  record {
    mode = mode_empty size place;
    worths = λ f. omega (arith, total_append f due (corrected false (entries ++ (fixeds (alones noted) ++ unfrozen))), worth_freeze_all size place [] tt f noted unfrozen entries m);
    marks = refl;
    base = refl;
    range = tt;
    smaller = smaller_flush true (pipe base marks noted unfrozen entries due);
  },
  (refl, refl, refl),
)
flushed false size place (pipe base marks noted unfrozen entries due) m = (
  record {
    mode = refl;
    worths = λ f. omega (arith, ap (λ (l : List Entry). total f (corrected false l)) m, ap (λ (l : List Entry). worth f false (l ++ unfrozen)) m, total_append f (due ++ plain (fixeds (alones noted) ++ unfrozen)) (corrected false entries), total_append f due (plain (fixeds (alones noted) ++ unfrozen)), worth_fixeds f false (alones noted) unfrozen);
    marks = refl;
    base = refl;
    range = tt;
    smaller = smaller_flush false (pipe base marks noted unfrozen entries due);
  },
  (refl, refl, refl),
)

-- more rows are noted, where the pipe is not full
pub noted_worth : (f : Record → ℕ) (d : Bool) (l : List ℕ) (p : Pipe) → worth_of f d (note l p) ≡ worth_of f d p + total f (alones l)
noted_worth f d l (pipe base marks noted unfrozen entries due) = omega (arith, ap (total f) (map-append RightAlone noted l), total_append f (alones noted) (alones l))

pub noted_mode : (d : Bool) (size place : ℕ) (l : List ℕ) (p : Pipe) → is_full d size p ≡ false → Moded d size place [] p → Moded d size place [] (note l p)
noted_mode true size place l (pipe base marks noted unfrozen entries due) e m = mode_note size place l (leb-false _ _ e) m
noted_mode false size place l (pipe base marks noted unfrozen entries due) e m = m

pub noted_marks : (l : List ℕ) (p : Pipe) → Ranged p → (marks_of (note l p) ≡ marks_of p) × (base_of (note l p) ≡ base_of p) × Ranged (note l p)
noted_marks l (pipe base marks noted unfrozen entries due) h = (refl, refl, h)

-- ---- batches leave

failures_append : (j : ℕ) (a b : List Mark) → failures j (a ++ b) ≡ failures j a ++ failures (j + length a) b
failures_append j [] b = ap (λ (k : ℕ). failures k b) (omega arith)
failures_append j (m ∷ a) b = rw (failures_append (suc j) a b, shift j (length a)) (sym (append_assoc (when (Rattle.law.specs.Pipe.is_failing m) (RightAlone j ∷ [])) _ _))

when_total : (f : Record → ℕ) (t : Bool) (a b : List Record) → total f (when t (a ++ b)) ≡ total f (when t a) + total f (when t b)
when_total f true a b = total_append f a b
when_total f false a b = refl

pub failures_total : (f : Record → ℕ) (keeps : Bool) (j : ℕ) (a b : List Mark) → total f (when keeps (failures j (a ++ b))) ≡ total f (when keeps (failures j a)) + total f (when keeps (failures (j + length a) b))
failures_total f keeps j a b = ap (λ (l : List Record). total f (when keeps l)) (failures_append j a b) ∙ when_total f keeps (failures j a) (failures (j + length a) b)

split_alones : (f : Record → ℕ) (t : ℕ → Bool) (l : List ℕ) → total f (alones (filter t l)) + total f (alones (filter (λ j. not (t j)) l)) ≡ total f (alones l)
split_alones f t [] = refl
split_alones f t (j ∷ l) = go (t j) (split_alones f t l)
  where
    go : (b : Bool) → total f (alones (filter t l)) + total f (alones (filter (λ j. not (t j)) l)) ≡ total f (alones l)
        → total f (alones (cond b (j ∷ filter t l) (filter t l))) + total f (alones (cond (not b) (j ∷ filter (λ j. not (t j)) l) (filter (λ j. not (t j)) l))) ≡ total f (alones (j ∷ l))
    go true e = omega arith
    go false e = omega arith

abbrev base_left : Left → ℕ
base_left (left base sizes marks noted given) = base

abbrev sizes_left : Left → List ℕ
sizes_left (left base sizes marks noted given) = sizes

abbrev marks_left : Left → List Mark
marks_left (left base sizes marks noted given) = marks

abbrev noted_left : Left → List ℕ
noted_left (left base sizes marks noted given) = noted

abbrev given_left : Left → List Record
given_left (left base sizes marks noted given) = given

record Leaves (keeps : Bool) (m base : ℕ) (sizes noted : List ℕ) (eb tail : List Mark) (q : Left) : Type 0 where
  behind : List Mark
  marks : marks_left q ≡ behind ++ tail
  place : base_left q + length behind ≡ base + m
  sums : base_left q + total_size (sizes_left q) ≡ base + total_size sizes
  empties : total_size sizes ≡ m → behind ≡ []
  fewer : total_size (sizes_left q) ≤ total_size sizes
  lengths : length (given_left q) + length (noted_left q) ≤ length noted + fails_in eb
  noting : ((f : ℕ → ℕ) → total f noted ≤ total f (unseens base eb)) → (f : ℕ → ℕ) → total f (noted_left q) ≤ total f (unseens (base_left q) behind)
  worths : (f : Record → ℕ) → total f (given_left q) + (total f (alones (noted_left q)) + total f (when keeps (failures (base_left q) behind))) ≡ total f (alones noted) + total f (when keeps (failures base eb))

give : (keeps : Bool) (m base n : ℕ) (sizes noted : List ℕ) (eb tail : List Mark) (q : Left) → n ≤ m → length eb ≡ m
    → Leaves keeps (m - n) (base + n) sizes (filter (λ j. not (ltb j (base + n))) noted) (drop n eb) tail q
    → Leaves keeps m base (n ∷ sizes) noted eb tail (giving (alones (filter (λ j. ltb j (base + n)) noted) ++ when keeps (failures base (take n eb))) q)
give keeps m base n sizes noted eb tail (left base' sizes' marks' noted' given) l e r = record {
  behind = r.behind;
  marks = r.marks;
  place = omega (arith, r.place);
  sums = omega (arith, r.sums);
  empties = λ z. r.empties (omega arith);
  fewer = omega (arith, r.fewer);
  lengths = omega (
    arith,
    r.lengths,
    length-append (alones (filter (λ j. ltb j (base + n)) noted) ++ when keeps (failures base (take n eb))) given,
    length-append (alones (filter (λ j. ltb j (base + n)) noted)) (when keeps (failures base (take n eb))),
    length-map (filter (λ j. ltb j (base + n)) noted) RightAlone,
    failures_count keeps base (take n eb),
    length-filter_both (λ j. ltb j (base + n)) (λ j. not (ltb j (base + n))) (λ _. refl) noted,
    ap fails_in (take-append-drop n eb),
    fails_append (take n eb) (drop n eb),
  );
  noting = λ h. r.noting (λ f. omega (
    arith,
    kept_total f (base + n) noted,
    h (past f (base + n)),
    ap (λ (x : List Mark). total (past f (base + n)) (unseens base x)) (take-append-drop n eb),
    unseens_total (past f (base + n)) base (take n eb) (drop n eb),
    past_none f (base + n) base (take n eb) (omega (arith, length-take-le n eb (omega arith))),
    past_all f (base + n) (base + length (take n eb)) (drop n eb) (omega (arith, length-take-le n eb (omega arith))),
    ap (λ (k : ℕ). total f (unseens (base + k) (drop n eb))) (length-take-le n eb (omega arith)),
  ));
  worths = λ f.
      omega (
        arith,
        r.worths f,
        split_alones f (λ j. ltb j (base + n)) noted,
        total_append f (alones (filter (λ j. ltb j (base + n)) noted) ++ when keeps (failures base (take n eb))) given,
        total_append f (alones (filter (λ j. ltb j (base + n)) noted)) (when keeps (failures base (take n eb))),
        ap (λ (x : List Mark). total f (when keeps (failures base x))) (take-append-drop n eb),
        failures_total f keeps base (take n eb) (drop n eb),
        ap (λ (k : ℕ). total f (when keeps (failures (base + k) (drop n eb)))) (length-take-le n eb (omega arith)),
      );
}

leaves : (keeps : Bool) (m base : ℕ) (sizes : List ℕ) (marks : List Mark) (noted : List ℕ) (eb tail : List Mark) → marks ≡ eb ++ tail → length eb ≡ m → Leaves keeps m base sizes noted eb tail (leave keeps m base sizes marks noted)
leaves keeps m base [] marks noted eb tail e l = record { behind = eb; marks = e; place = omega arith; sums = refl; empties = λ z. nil_from_length eb (omega arith); fewer = omega arith; lengths = omega arith; noting = λ h. h; worths = λ f. omega arith }
leaves keeps m base (n ∷ sizes) marks noted eb tail e l = go (leb n m) refl (leaves keeps (m - n) (base + n) sizes (drop n marks) (filter (λ j. not (ltb j (base + n))) noted) (drop n eb) tail)
  where
    go : (t : Bool) → leb n m ≡ t
        → (drop n marks ≡ drop n eb ++ tail → length (drop n eb) ≡ m - n → Leaves keeps (m - n) (base + n) sizes (filter (λ j. not (ltb j (base + n))) noted) (drop n eb) tail (leave keeps (m - n) (base + n) sizes (drop n marks) (filter (λ j. not (ltb j (base + n))) noted)))
        → Leaves keeps m base (n ∷ sizes) noted eb tail (cond t
        (giving (alones (filter (λ j. ltb j (base + n)) noted) ++ when keeps (failures base (take n marks))) (leave keeps (m - n) (base + n) sizes (drop n marks) (filter (λ j. not (ltb j (base + n))) noted)))
        (left base (n ∷ sizes) marks noted []))
    go true q r =
        let k : n ≤ m = leb-true n m q in
        let short : n ≤ length eb = omega arith in
        let a : drop n marks ≡ drop n eb ++ tail = ap (drop n) e ∙ drop-append-le n eb tail short in
        let b : take n marks ≡ take n eb = ap (take n) e ∙ take-append-le n eb tail short in
        subst (λ x. Leaves keeps m base (n ∷ sizes) noted eb tail (giving (alones (filter (λ j. ltb j (base + n)) noted) ++ when keeps (failures base x)) (leave keeps (m - n) (base + n) sizes (drop n marks) (filter (λ j. not (ltb j (base + n))) noted)))) (sym b)
        (give keeps m base n sizes noted eb tail _ k l (r a (length-drop n eb ∙ ap (λ (x : ℕ). x - n) l)))
    go false q r = record { behind = eb; marks = e; place = omega arith; sums = refl; empties = λ z. absurd (omega (arith, leb-false n m q)); fewer = omega arith; lengths = omega arith; noting = λ h. h; worths = λ f. omega arith }

pub record Parted (d : Bool) (size place : ℕ) (keeps : Bool) (m : ℕ) (sizes : List ℕ) (p : Pipe) (eb tail : List Mark) (q : Pipe × List ℕ) : Type 0 where
  pub behind : List Mark
  pub marks : marks_of q.0 ≡ behind ++ tail
  pub base : base_of q.0 + length behind ≡ base_of p + m
  pub sums : base_of q.0 + total_size q.1 ≡ base_of p + total_size sizes
  pub worths : (f : Record → ℕ) → worth_of f d q.0 + total f (when keeps (failures (base_of q.0) behind)) ≡ worth_of f d p + total f (when keeps (failures (base_of p) eb))
  pub mode : Moded d size place [] q.0
  pub range : Ranged q.0
  pub empties : total_size sizes ≡ m → behind ≡ []
  pub fewer : total_size q.1 ≤ total_size sizes
  pub lengths : size_of q.0 ≤ size_of p + fails_in eb
  pub noting : ((f : ℕ → ℕ) → total f (noted_of p) ≤ total f (unseens (base_of p) eb)) → (f : ℕ → ℕ) → total f (noted_of q.0) ≤ total f (unseens (base_of q.0) behind)
  pub short : length (unfrozen_of q.0) ≤ length (unfrozen_of p)

pub parted : (d : Bool) (size place : ℕ) (keeps : Bool) (m : ℕ) (sizes : List ℕ) (p : Pipe) (eb tail : List Mark) → marks_of p ≡ eb ++ tail → length eb ≡ m → Moded d size place [] p → Ranged p → Parted d size place keeps m sizes p eb tail (part d keeps m sizes p)
parted d size place keeps m sizes (pipe base marks noted unfrozen entries due) eb tail e l mode ranged =
    go (first_leaves m sizes) refl (leave keeps m base sizes (marking base unfrozen marks) noted) (leaves keeps m base sizes (marking base unfrozen marks) noted eb tail e l)
  where
    out : (d : Bool) (q : Left) → Leaves keeps m base sizes noted eb tail q → Moded d size place [] (pipe base marks noted unfrozen entries due)
        → Parted d size place keeps m sizes (pipe base marks noted unfrozen entries due) eb tail (given_by d unfrozen entries due q)
    out true (left base' sizes' marks' noted' given) r mode = record {
      behind = r.behind;
      marks = r.marks;
      base = r.place;
      sums = r.sums;
      worths = λ f. omega (arith, r.worths f, worth_tail f true (entries ++ (unfrozen ++ fixeds given)), ap (worth f true) (append_assoc entries unfrozen (fixeds given)), worth_behind f true (entries ++ unfrozen) given);
      mode = mode_part size place given noted' mode;
      range = tt;
      empties = r.empties;
      fewer = r.fewer;
      lengths = omega (arith, r.lengths, length-append entries (unfrozen ++ fixeds given), length-append unfrozen (fixeds given), length-map given fixed);
      noting = r.noting;
      short = omega arith;
    }
    out false (left base' sizes' marks' noted' given) r mode = record {
      behind = r.behind;
      marks = r.marks;
      base = r.place;
      sums = r.sums;
      worths = λ f. omega (arith, r.worths f, worth_tail f false entries, total_append f due (plain (unfrozen ++ fixeds given)), worth_behind f false unfrozen given, worth_plain f entries unfrozen);
      mode = mode;
      range = tt;
      empties = r.empties;
      fewer = r.fewer;
      lengths = omega (arith, r.lengths, length-append due (plain (unfrozen ++ fixeds given)), plain_short (unfrozen ++ fixeds given), length-append unfrozen (fixeds given), length-map given fixed);
      noting = r.noting;
      short = omega arith;
    }

    stays : (sizes : List ℕ) → first_leaves m sizes ≡ false → total_size sizes ≡ m → eb ≡ []
    stays [] h e = nil_from_length eb (omega arith)
    stays (n ∷ sizes) h e = absurd (omega (arith, leb-false n m h))

    go : (t : Bool) → first_leaves m sizes ≡ t → (q : Left) → Leaves keeps m base sizes noted eb tail q → Parted d size place keeps m sizes (pipe base marks noted unfrozen entries due) eb tail (cond t (given_by d unfrozen entries due q) (pipe base marks noted unfrozen entries due, sizes))
    go true h q r = out d q r mode
    go false h q r = record { behind = eb; marks = e; base = omega arith; sums = refl; worths = λ f. refl; mode = mode; range = ranged; empties = stays sizes h; fewer = omega arith; lengths = omega arith; noting = λ h. h; short = omega arith }

pub moded_passed : (d : Bool) (size place : ℕ) (group : List Entry) → AllByRecursion (Own place) group → (p : Pipe) → Moded d size place group p → Moded d size (suc place) [] p
moded_passed true size place group own (pipe base marks noted unfrozen entries due) m = mode_passed size place group own m
moded_passed false size place group own (pipe base marks noted unfrozen entries due) m = m

-- more rows are held
mark_longer : (n : ℕ) (v : Bool) (a b : List Mark) → n < length a → mark_at n v (a ++ b) ≡ mark_at n v a ++ b
mark_longer n v [] b h = absurd (omega arith)
mark_longer zero v (m ∷ a) b h = refl
mark_longer (suc n) v (m ∷ a) b h = ap (λ (l : List Mark). m ∷ l) (mark_longer n v a b (omega arith))

pub marking_longer : (base : ℕ) (u : List Entry) (a b : List Mark) → AllByRecursion (Inside base (length a)) u → marking base u (a ++ b) ≡ marking base u a ++ b
marking_longer base [] a b h = refl
marking_longer base (fixed r ∷ u) a b h = marking_longer base u a b h.1
marking_longer base (judged i j v ∷ u) a b h = ap (marking base u) (mark_longer (j - base) v a b h.0) ∙ marking_longer base u (mark_at (j - base) v a) b (rw (length_mark (j - base) v a) h.1)

more_inside : (base n m : ℕ) → n ≤ m → (e : Entry) → Inside base n e → Inside base m e
more_inside base n m l (fixed r) h = tt
more_inside base n m l (judged i j v) h = omega arith

pub more_range : (base n m : ℕ) → n ≤ m → (u : List Entry) → AllByRecursion (Inside base n) u → AllByRecursion (Inside base m) u
more_range base n m l u h = All-weaker (Inside base n) (Inside base m) (more_inside base n m l) u h

-- before a turn there is less than the batch size in the pipe, besides the noted rows
pub low : (d : Bool) (size place : ℕ) (p : Pipe) → is_full d size p ≡ false → Moded d size place [] p → length (unfrozen_of p) < size → due_of p ≡ [] → size_of p < size + length (noted_of p)
low true size place (pipe base marks noted unfrozen entries due) f m s e = omega (arith, leb-false _ _ f, ap length e)
low false size place (pipe base marks noted unfrozen entries due) f m s e = omega (arith, ap length e, ap length m)

pub noted_size : (l : List ℕ) (p : Pipe) → (size_of (note l p) ≡ size_of p + length l) × (noted_of (note l p) ≡ noted_of p ++ l) × (unfrozen_of (note l p) ≡ unfrozen_of p)
noted_size l (pipe base marks noted unfrozen entries due) = (omega (arith, length-append noted l), refl, refl)
