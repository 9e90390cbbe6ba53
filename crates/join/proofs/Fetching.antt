-- A fetch of the code against the machine's, path by path.
use Rattle.std.proofs.Common.{◌≡◌, ℕ, zero, suc, ◌+◌, ◌<◌, ◌≤◌, Bool, false, List, length, take, drop, Some, Ok, Err, Option, Result, sym, refl, ap, ◌∙◌, subst, arith}
use Rattle.std.proofs.lemmas.List.{length-take-le, length-drop}
use Rattle.rows.specs.declared.kind.Side.{Side}
use Rattle.rows.specs.declared.row.Row.{Row}
use Rattle.rows.specs.Sides.{streamed_side}
use Rattle.sources.specs.declared.fault.SourceFault.{SourceFault}
use Rattle.sources.specs.Meaning.{Closing, upcoming, take_of, Took}
use Rattle.pipeline.specs.declared.states.FilterState.{FilterState}
use Rattle.pipeline.specs.Block.{Queued, queued, freeze}
use Rattle.pipeline.specs.Freezing.{judged_all}
use Rattle.pipeline.specs.Held.{holding}
use Rattle.pipeline.specs.States.{marking}
use Rattle.machine.specs.declared.fault.JoinFault.{JoinFault}
use Rattle.machine.specs.Machine.{Setting, Streamed, Buffered, Counts, fetching, stopped, Core, core, Outcome, going, answered, Told, streamed_read, deferred, let_go, disorder, step, step_of, stops, skipped, at_end, after_fetch, fetch_from, fetch_taken}
use Rattle.join.specs.declared.load.LoadFault.{LoadFault}
use Rattle.join.specs.declared.phase.Phase.{Phase as PhaseOf}
use Rattle.join.specs.declared.phase.Phase.TheVariants.{Fetching}
use Rattle.join.specs.declared.state.Join.{Join}
use Rattle.join.specs.declared.turn.Step.{Step}
use Rattle.join.specs.declared.turn.Step.TheVariants.{Said}
use Rattle.join.specs.Loads.{on_side, checked}
use Rattle.join.specs.Shows.{Memory, memory, core_of, streamed_of, buffered_of, counts_of, phase_of, Stepped}
use Rattle.join.specs.Taken.{use_taken}
use Rattle.join.proofs.Loading.{checked_is, told, loading_told, fetch_is, fetch_freezes}

-- a step that answers
pub said : {K : Type 0} {o : Outcome K} {told : Told} {r : Step} {after : Core K} → r ≡ Said told → o ≡ answered told after → Stepped o r after
said {K} {o} {told} {r} {after} is stops = subst (λ (x : Step). Stepped o x after) (sym is) stops

-- a batch that passes the checks has no more rows than the table has space for
pub checked_fits : (x : Result (Option ℕ) SourceFault) (read space n : ℕ) → Ok (Some n) ≡ checked x read false space → n ≤ space
checked_fits x read space n h = (checked_is x read false space n h).1

module _ {K : Type 0} (s : Setting K) (j : Join K) (first : Bool) (m : Memory K)
    (read : ℕ) (is_phase : j.phase ≡ Fetching first) (long : length m.streamed ≡ j.limits.streamed) (is_read : read ≡ j.streamed.first + j.streamed.rows) where
  abbrev st : Streamed K
  st = streamed_of j m

  abbrev bf : Buffered K
  bf = buffered_of j m

  abbrev q : Queued
  q = queued j.queue m.block

  abbrev n : Counts
  n = counts_of j.counts

  abbrev asked : Result (Option ℕ) LoadFault
  asked = checked (upcoming m.streamed_batches m.streamed_closing) read false s.streamed_table

  abbrev took : Took (Row K)
  took = take_of m.streamed_batches m.streamed_closing m.streamed

  abbrev failing : ℕ → LoadFault → Outcome K
  failing k f = stops s (on_side f (streamed_side s.kind) k) st bf q n

  abbrev skips : List (List (Row K)) → Outcome K
  skips left = going (core (skipped s left st) bf q n (fetching first))

  abbrev takes : List (Row K) → List (List (Row K)) → Outcome K
  takes rows left = fetch_taken s q.unfrozen first rows left st bf q n

  -- what the step comes to, by what the checks answer, where so many rows were read
  abbrev comes_to : ℕ → Result (Option ℕ) LoadFault → Outcome K
  comes_to k answer = told k false s.streamed_table (going (core (at_end s st) bf q n (after_fetch s first))) (failing k) skips takes answer took

  pub read_is : streamed_read st ≡ j.streamed.first + j.streamed.rows
  read_is = ap (λ k. j.streamed.first + k) (length-take-le j.streamed.rows m.streamed (omega (arith, j.ours, long)))

  steps : step_of s (core_of j m) ≡ fetch_from s first m.streamed_batches m.streamed_closing st bf q n
  steps = ap (λ (p : PhaseOf). step s (phase_of p (holding j.buffered) (take j.buffered.held m.buffered)) st bf q n) is_phase

  checks : checked (upcoming m.streamed_batches m.streamed_closing) (streamed_read st) false s.streamed_table ≡ asked
  checks = ap (λ k. checked (upcoming m.streamed_batches m.streamed_closing) k false s.streamed_table) (read_is ∙ sym is_read)

  -- of the table it asks that it has room for a batch that is taken
  pub fetch_told : ((k : ℕ) → Ok (Some (suc k)) ≡ asked → suc k ≤ length m.streamed) → step_of s (core_of j m) ≡ comes_to read asked
  fetch_told fits =
      steps
      ∙ fetch_is s st bf q n first m.streamed_batches m.streamed_closing
      ∙ loading_told (streamed_read st) false s.streamed_table (going (core (at_end s st) bf q n (after_fetch s first))) (failing (streamed_read st)) skips takes m.streamed_batches m.streamed_closing m.streamed (λ k says. fits k (says ∙ checks))
      ∙ ap (λ (k : ℕ). comes_to k (checked (upcoming m.streamed_batches m.streamed_closing) k false s.streamed_table)) (read_is ∙ sym is_read)

  -- a check fails
  pub fetch_stops : (f : LoadFault) (side : Side) (fault : JoinFault) (r : Step) (after : Core K)
      → Err f ≡ asked → side ≡ streamed_side s.kind → fault ≡ on_side f side read → r ≡ Said (Err fault) → after ≡ core st bf q n (stopped fault)
      → Stepped (step_of s (core_of j m)) r after
  fetch_stops f side fault r after fails is_side is_fault is_r is_after =
      said is_r (fetch_told (λ k says. absurd (let z : ◌≡◌ {A = ℕ} 0 1 = cc in omega arith)) ∙ rw (← fails, ← is_side, ← is_fault, is_after) refl)

  -- the unfrozen freeze
  pub fetch_froze : (k : ℕ) (states : List FilterState) (q' : Queued) → Ok (Some k) ≡ asked → 0 < k → 0 < j.queue.unfrozen → length m.block ≡ j.limits.block
      → states ≡ marking s.kind j.buffered.base (judged_all s.asks q.unfrozen) bf.states → q' ≡ let_go (deferred s) (freeze s.asks q)
      → step_of s (core_of j m) ≡ going (core st (record { batches = bf.batches; closing = bf.closing; holding = bf.holding; rows = bf.rows; states = states; ended = bf.ended; last = bf.last }) q' n (phase_of j.phase (holding j.buffered) (take j.buffered.held m.buffered)))
  fetch_froze zero states q' says some held whole marks queue = absurd (omega arith)
  fetch_froze (suc k) states q' says some held whole marks queue =
      let one : 1 ≤ length q.unfrozen =
      omega (arith, length-take-le j.queue.unfrozen (drop j.queue.frozen m.block) (omega (arith, length-drop j.queue.frozen m.block, j.room, j.limits.room, whole))) in
      steps ∙ fetch_freezes s st bf q n first m.streamed_batches m.streamed_closing k (checks ∙ sym says) one ∙ rw (marks, queue, is_phase) refl

  -- the batch is taken, and then put to use
  pub fetch_used : (k : ℕ) (sl' : List (List (Row K))) (sc' : Closing) (table' : List (Row K)) (r : Step) (after : Core K) → Ok (Some k) ≡ asked → 0 < k → j.queue.unfrozen ≡ 0 → k ≤ length m.streamed → sl' ≡ took.left → table' ≡ took.memory
      → Stepped (use_taken s (disorder s.within st.last (take k table') (streamed_read st)) first k j (memory sl' sc' m.buffered_batches m.buffered_closing table' m.buffered m.block) st) r after
      → Stepped (step_of s (core_of j m)) r after
  fetch_used zero sl' sc' table' r after says some none fits is_left is_table used = absurd (omega arith)
  fetch_used (suc k) sl' sc' table' r after says some none fits is_left is_table used =
      subst (λ (o : Outcome K). Stepped o r after) (sym (fetch_told (λ i more. let z : suc i ≡ suc k = cc in omega arith) ∙ rw (← says, none, is_left, is_table) refl)) used
