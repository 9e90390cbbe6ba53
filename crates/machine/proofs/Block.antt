-- What freezing and handing over make of the block, in the plain machine.
use Rattle.std.proofs.Common.{◌≡◌, ℕ, ◌<◌, ◌≤◌, Bool, true, false, cond, List, [], ◌++◌, map, sym, refl, ap, ◌∙◌, subst, true≢false, append-nil}
use Rattle.std.proofs.lemmas.List.{map-append}
use Rattle.std.specs.List.{AllByRecursion}
use Rattle.std.proofs.ByRecursion.{All-append, All-weaker}
use Rattle.rows.specs.declared.record.Record.{Record}
use Rattle.rows.specs.Sides.{oriented}
use Rattle.law.specs.Pipe.{Mark, pipe, fixeds, alones, put}
use Rattle.law.specs.Pipe.{Entry as plain_entry, freeze as plain_freeze, freeze_all as plain_freeze_all, correct as plain_correct, corrected as plain_corrected, flush as plain_flush, marking as plain_marking}
use Rattle.pipeline.specs.declared.entry.Entry.{Entry}
use Rattle.pipeline.specs.declared.states.FilterState.{FilterState}
use Rattle.pipeline.specs.States.{marking}
use Rattle.pipeline.specs.Freezing.{judged_all}
use Rattle.pipeline.specs.Block.{Queued, freeze, freeze_all, release, correct}
use Rattle.machine.specs.Machine.{Setting, deferred, let_go, flush}
use Rattle.machine.proofs.Entries.{mark_of, entry_of, place_of, Made, Frozen, Noted, entries_judged, frozen_judged, released, corrected_is, marking_is, noted_are}
use Rattle.machine.proofs.Plain.{pipe_of, WholeBlock}

module _ {K : Type 0} (c : Setting K) (batch_of : ℕ → ℕ) where
  abbrev entries : List Entry → List plain_entry
  entries = map (entry_of c.kind c.asks)

  abbrev places_of : List Entry → List ℕ
  places_of = map (place_of c.kind c.asks)

  abbrev AllFrozen : List Entry → Type 0
  AllFrozen = AllByRecursion (Frozen c.kind c.asks batch_of)

  abbrev pub block : List Entry → List Entry → List Entry → List Record → Queued
  block noted unfrozen frozen due = record { noted = noted; unfrozen = unfrozen; frozen = frozen; due = due }

  noted_frozen_one : (e : Entry) → Noted c.kind c.asks e → Frozen c.kind c.asks batch_of e
  noted_frozen_one e h = subst (Frozen c.kind c.asks batch_of) (sym h) (refl, tt)

  pub noted_frozen : (es : List Entry) → AllByRecursion (Noted c.kind c.asks) es → AllFrozen es
  noted_frozen es h = All-weaker _ _ noted_frozen_one es h

  -- entries freeze behind what is frozen
  pub put_is : (d : Bool) (base : ℕ) (states : List FilterState) (noted unfrozen frozen es : List Entry) (due : List Record) → AllFrozen es → (d ≡ false → frozen ≡ []) → due ≡ []
      → pipe_of c base states (let_go d (block noted unfrozen (frozen ++ es) due)) ≡ put d (entries es) (pipe base (map mark_of states) (places_of noted) (entries unfrozen) (entries frozen) (map (oriented c.kind) due))
  put_is true base states noted unfrozen frozen es due h z w = ap (λ (l : List plain_entry). pipe base (map mark_of states) (places_of noted) (entries unfrozen) l (map (oriented c.kind) due)) (map-append (entry_of c.kind c.asks) frozen es)
  put_is false base states noted unfrozen frozen es due h z w = rw (z refl, w) (ap (pipe base (map mark_of states) (places_of noted) (entries unfrozen) []) (released c.kind c.asks batch_of es h))

  -- the unfrozen freeze
  pub frozen_is : (base : ℕ) (states : List FilterState) (first : ℕ) (q : Queued) → WholeBlock c batch_of first q → q.due ≡ []
      → pipe_of c base (marking c.kind base (judged_all c.asks q.unfrozen) states) (let_go (deferred c) (freeze c.asks q)) ≡ plain_freeze (deferred c) (pipe_of c base states q)
  frozen_is base states first q h w =
      put_is (deferred c) base (marking c.kind base (judged_all c.asks q.unfrozen) states) q.noted [] q.frozen (judged_all c.asks q.unfrozen) q.due (frozen_judged c.kind c.asks batch_of q.unfrozen h.made) h.at_once w
      ∙ ap (λ (l : List plain_entry). put (deferred c) l (pipe base (map mark_of (marking c.kind base (judged_all c.asks q.unfrozen) states)) (places_of q.noted) [] (entries q.frozen) (map (oriented c.kind) q.due))) (entries_judged c.kind c.asks q.unfrozen)
      ∙ ap (λ (l : List Mark). put (deferred c) (entries q.unfrozen) (pipe base l (places_of q.noted) [] (entries q.frozen) (map (oriented c.kind) q.due))) (marking_is c.kind c.asks base q.unfrozen states)

  -- what is frozen when all freezes
  pub all_are : (noted unfrozen : List Entry) → AllByRecursion (Noted c.kind c.asks) noted → entries (noted ++ judged_all c.asks unfrozen) ≡ fixeds (alones (places_of noted)) ++ entries unfrozen
  all_are noted unfrozen h = map-append (entry_of c.kind c.asks) noted (judged_all c.asks unfrozen) ∙ ap (λ (l : List plain_entry). l ++ entries (judged_all c.asks unfrozen)) (noted_are c.kind c.asks noted h) ∙ ap (λ (l : List plain_entry). fixeds (alones (places_of noted)) ++ l) (entries_judged c.kind c.asks unfrozen)

  pub all_frozen_are : (noted unfrozen : List Entry) → AllByRecursion (Noted c.kind c.asks) noted → AllByRecursion (Made c.kind c.asks batch_of) unfrozen → AllFrozen (noted ++ judged_all c.asks unfrozen)
  all_frozen_are noted unfrozen h k = All-append _ noted _ (noted_frozen noted h) (frozen_judged c.kind c.asks batch_of unfrozen k)

  -- all freezes; the unfrozen may have reached the batch size
  pub all_frozen_is : (base : ℕ) (states : List FilterState) (noted unfrozen frozen : List Entry) (due : List Record) → AllByRecursion (Noted c.kind c.asks) noted → AllByRecursion (Made c.kind c.asks batch_of) unfrozen → (deferred c ≡ false → frozen ≡ []) → due ≡ []
      → pipe_of c base (marking c.kind base (judged_all c.asks unfrozen) states) (let_go (deferred c) (freeze_all c.asks (block noted unfrozen frozen due))) ≡ plain_freeze_all (deferred c) (pipe_of c base states (block noted unfrozen frozen due))
  all_frozen_is base states noted unfrozen frozen due h k z w =
      put_is (deferred c) base (marking c.kind base (judged_all c.asks unfrozen) states) [] [] frozen (noted ++ judged_all c.asks unfrozen) due (all_frozen_are noted unfrozen h k) z w
      ∙ ap (λ (l : List plain_entry). put (deferred c) l (pipe base (map mark_of (marking c.kind base (judged_all c.asks unfrozen) states)) [] [] (entries frozen) (map (oriented c.kind) due))) (all_are noted unfrozen h)
      ∙ ap (λ (l : List Mark). put (deferred c) (fixeds (alones (places_of noted)) ++ entries unfrozen) (pipe base l [] [] (entries frozen) (map (oriented c.kind) due))) (marking_is c.kind c.asks base unfrozen states)

  flush_cases : (d : Bool) (base : ℕ) (states : List FilterState) (q : Queued) → AllFrozen q.frozen → (d ≡ false → q.frozen ≡ []) → q.due ≡ []
      → (marks : List Mark) → map mark_of states ≡ marks → (all : List Entry) → AllFrozen all
      → pipe_of c base states (cond d (correct c.kind (block [] [] (q.frozen ++ all) q.due)) (release (block [] [] (q.frozen ++ all) q.due))) ≡ plain_correct (put d (entries all) (pipe base marks [] [] (entries q.frozen) (map (oriented c.kind) q.due)))
  flush_cases true base states q h z w marks m all k = rw (w, m) (ap (pipe base marks [] [] []) (corrected_is c.kind c.asks batch_of false (q.frozen ++ all) (All-append _ q.frozen all h k) ∙ ap (plain_corrected false) (map-append (entry_of c.kind c.asks) q.frozen all)))
  flush_cases false base states q h z w marks m all k = rw (w, m, z refl) (ap (pipe base marks [] [] []) (released c.kind c.asks batch_of all k ∙ sym (append-nil _)))

  -- all freezes, is corrected and handed over
  pub flushed_is : (base : ℕ) (states : List FilterState) (first : ℕ) (q : Queued) → WholeBlock c batch_of first q → q.due ≡ []
      → pipe_of c base (marking c.kind base (judged_all c.asks q.unfrozen) states) (flush (deferred c) c.kind c.asks q) ≡ plain_flush (deferred c) (pipe_of c base states q)
  flushed_is base states first q h w =
      flush_cases (deferred c) base (marking c.kind base (judged_all c.asks q.unfrozen) states) q h.frozen h.at_once w _ (marking_is c.kind c.asks base q.unfrozen states) (q.noted ++ judged_all c.asks q.unfrozen) (all_frozen_are q.noted q.unfrozen h.noted h.made)
      ∙ ap (λ (l : List plain_entry). plain_correct (put (deferred c) l (pipe base (plain_marking base (entries q.unfrozen) (map mark_of states)) [] [] (entries q.frozen) (map (oriented c.kind) q.due)))) (all_are q.noted q.unfrozen h.noted)

  -- ---- the block stays whole

  -- after freezing
  pub let_go_whole : (d : Bool) → deferred c ≡ d → (first : ℕ) (noted frozen es : List Entry) (due : List Record) → AllFrozen frozen → AllFrozen es → AllByRecursion (Noted c.kind c.asks) noted → AllByRecursion (λ e. place_of c.kind c.asks e < first) noted → 1 ≤ c.size
      → WholeBlock c batch_of first (let_go d (block noted [] (frozen ++ es) due))
  let_go_whole true z first noted frozen es due h k nt be s = record { made = tt; frozen = All-append _ frozen es h k; noted = nt; behind = be; short = s; at_once = λ e. absurd (true≢false (sym z ∙ e)) }
  let_go_whole false z first noted frozen es due h k nt be s = record { made = tt; frozen = tt; noted = nt; behind = be; short = s; at_once = λ e. refl }

  pub flush_whole : (d : Bool) → (first : ℕ) (q : Queued) → 1 ≤ c.size → WholeBlock c batch_of first (flush d c.kind c.asks q)
  flush_whole true first q s = record { made = tt; frozen = tt; noted = tt; behind = tt; short = s; at_once = λ e. refl }
  flush_whole false first q s = record { made = tt; frozen = tt; noted = tt; behind = tt; short = s; at_once = λ e. refl }
