-- A turn that flushes the block, notes the streamed row alone or ends, and what comes of entries more, against the machine's.
use Rattle.std.proofs.Common.{◌≡◌, ◌+◌, ◌<◌, ◌≤◌, Bool, true, ◌&&◌, [], ◌∷◌, List, length, take, sym, ap, ◌∙◌, arith}
use Rattle.std.proofs.lemmas.Bool.{le-leb, lt-leb, cond-true, cond-false}
use Rattle.rows.specs.Sides.{is_outer}
use Rattle.pipeline.specs.Block.{Queued, Roomy, pushed, queued, freeze_all}
use Rattle.pipeline.specs.declared.states.FilterState.{FilterState}
use Rattle.pipeline.specs.Entries.{lone}
use Rattle.pipeline.specs.Freezing.{judged_all}
use Rattle.pipeline.specs.Held.{holding}
use Rattle.pipeline.specs.Orient.{streamed_alone}
use Rattle.pipeline.specs.States.{marking}
use Rattle.pipeline.proofs.Queues.{counts}
use Rattle.machine.specs.Machine.{Setting, Phase, Streamed, Buffered, Counts, Core, core, Outcome, going, done, passing, deferred, let_go, flush, marked_by, step, step_of, has_batch, lone_row, freeze_full}
use Rattle.join.specs.declared.phase.Phase.{Phase as PhaseOf}
use Rattle.join.specs.declared.phase.Phase.TheVariants.{Closing, Turning}
use Rattle.join.specs.declared.state.Join.{Join}
use Rattle.join.specs.Shows.{Memory, core_of, streamed_of, buffered_of, counts_of, phase_of}
use Rattle.join.proofs.Comparing.{turn_flushes}

module _ {K : Type 0} (c : Setting K) (ph : Phase K) (st : Streamed K) (bf : Buffered K) (q : Queued) (n : Counts) where
  -- the unfrozen wait while they are fewer than a batch
  pub freeze_waits : length q.unfrozen < c.size → freeze_full c ph st bf q n ≡ going (core st bf q n ph)
  freeze_waits few = cond-false _ _ _ (lt-leb c.size (length q.unfrozen) few)

  abbrev frozen : List FilterState → Queued → Outcome K
  frozen states q' = going (core st (record { batches = bf.batches; closing = bf.closing; holding = bf.holding; rows = bf.rows; states = states; ended = bf.ended; last = bf.last }) q' n ph)

  -- else all is frozen
  pub freeze_fills : c.size ≤ length q.unfrozen → (states : List FilterState) (q' : Queued) → states ≡ marking c.kind bf.holding.base (judged_all c.asks q.unfrozen) bf.states → q' ≡ let_go (deferred c) (freeze_all c.asks q)
      → freeze_full c ph st bf q n ≡ frozen states q'
  freeze_fills full states q' marks holds =
      cond-true _ _ _ (le-leb c.size (length q.unfrozen) full)
      ∙ ap (λ (x : List FilterState). frozen x (let_go (deferred c) (freeze_all c.asks q))) (sym marks) ∙ ap (frozen states) (sym holds)

-- a batch in the block is flushed
pub batch_flushed : {K : Type 0} (s : Setting K) (j : Join K) (m : Memory K) (after : Core K) → j.phase ≡ Turning → Roomy j.queue m.block → s.size ≤ j.queue.frozen + j.queue.unfrozen
    → after ≡ core (streamed_of j m) (marked_by s.kind s.asks (queued j.queue m.block) (buffered_of j m)) (flush (deferred s) s.kind s.asks (queued j.queue m.block)) (counts_of j.counts)
    (phase_of j.phase (holding j.buffered) (take j.buffered.held m.buffered))
    → step_of s (core_of j m) ≡ going after
batch_flushed s j m after is_phase room full is_after =
    let k = counts j.queue m.block room in
    turn_flushes s j m is_phase (cond-true (has_batch s (queued j.queue m.block)) _ _ (le-leb _ _ (omega (arith, k.1, k.2)))) ∙ ap going (sym is_after)

-- a streamed row noted alone
pub lone_pushed : {K : Type 0} (s : Setting K) (st : Streamed K) (bf : Buffered K) (q q' : Queued) (n : Counts) → is_outer s.kind ≡ true → q' ≡ pushed (lone (streamed_alone s.kind (st.first + st.at)) ∷ []) q
    → lone_row s (is_outer s.kind) st bf q n ≡ freeze_full s passing st bf q' n
lone_pushed s st bf q q' n lists holds = ap (λ (b : Bool). lone_row s b st bf q n) lists ∙ ap (λ (x : Queued). freeze_full s passing st bf x n) (sym holds)

-- with both sides ended all is due
pub close_flushes : {K : Type 0} (s : Setting K) (j : Join K) (m : Memory K) (first : Bool) (after : Core K) → j.phase ≡ Closing first → (j.streamed.ended && j.buffered_ended) ≡ true
    → after ≡ core (streamed_of j m) (marked_by s.kind s.asks (queued j.queue m.block) (buffered_of j m)) (flush (deferred s) s.kind s.asks (queued j.queue m.block)) (counts_of j.counts) done → step_of s (core_of j m) ≡ going after
close_flushes {K} s j m first after is_phase both is =
    let q = queued j.queue m.block in
    ap (λ (p : PhaseOf). step s (phase_of p (holding j.buffered) (take j.buffered.held m.buffered)) (streamed_of j m) (buffered_of j m) q (counts_of j.counts)) is_phase
    ∙ cond-true (j.streamed.ended && j.buffered_ended) _ _ both ∙ ap going (sym is)
