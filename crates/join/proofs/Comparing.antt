-- How a turn compares the streamed row with the run, read off the tables.
use Rattle.std.proofs.Common.{◌≡◌, ℕ, ◌+◌, ◌<◌, ◌≤◌, Bool, true, false, cond, List, length, get_or, take, Some, None, Option, Ordering, sym, refl, ap, ◌∙◌, arith}
use Rattle.std.proofs.lemmas.List.{length-take, get_or-take}
use Rattle.std.proofs.lemmas.Option.{slice_get_read, none-some}
use Rattle.std.proofs.lemmas.Bool.{le-leb, cond-true}
use Rattle.pipeline.specs.Block.{queued}
use Rattle.pipeline.specs.Held.{holding}
use Rattle.pipeline.proofs.Queues.{counts}
use Rattle.join.specs.declared.phase.Phase.{Phase as PhaseOf}
use Rattle.join.specs.declared.phase.Phase.TheVariants.{Turning}
use Rattle.machine.specs.Machine.{Setting, Phase, Outcome, going, core, turning as turning_phase, marked_by, flush, deferred, step, step_of, row_at, run_head, comparison, has_batch}
use Rattle.join.specs.declared.state.Join.{Join}
use Rattle.join.specs.Shows.{Memory, core_of, phase_of, streamed_of, buffered_of, counts_of, compared_as, flushed, turned}
use Rattle.join.proofs.Settling.{roomy_of}

-- a row of the first k
pub row_taken : {A : Type 0} (n k : ℕ) (l : List A) (x : A) → n < k → n < length l → x ≡ get_or l n x → row_at n (take k l) ≡ Some x
row_taken n k l x within long is = slice_get_read (take k l) (length (take k l)) n x refl (omega (arith, length-take k l)) (is ∙ sym (get_or-take k l n x within))

module _ {K : Type 0} (c : Setting K) (j : Join K) (m : Memory K) (size : c.size ≡ j.limits.batch) where
  waiting : length m.block ≡ j.limits.block → length (queued j.queue m.block).frozen + length (queued j.queue m.block).unfrozen ≡ j.queue.frozen + j.queue.unfrozen
  waiting long =
      let n = counts j.queue m.block (roomy_of j m.block long) in
      omega (arith, n.1, n.2)

  -- a batch waits in the block: it is emptied first
  pub compares_nothing : length m.block ≡ j.limits.block → j.limits.batch ≤ j.queue.frozen + j.queue.unfrozen → compared_as c j m ≡ None
  compares_nothing long full = cond-true (has_batch c (queued j.queue m.block)) _ _ (le-leb _ _ (omega (arith, waiting long)))

-- What the turn comes to, by the comparison.
module _ {K : Type 0} (c : Setting K) (j : Join K) (m : Memory K) (turning : j.phase ≡ Turning) where
  abbrev o : Ordering
  o = comparison c (row_at j.streamed.at (take j.streamed.rows m.streamed)) (run_head c (buffered_of j m))

  abbrev flushed_in : Phase K → Outcome K
  flushed_in ph =
      let q = queued j.queue m.block in
      going (core (streamed_of j m) (marked_by c.kind c.asks q (buffered_of j m)) (flush (deferred c) c.kind c.asks q) (counts_of j.counts) ph)

  abbrev phase_by : PhaseOf → Phase K
  phase_by ph = phase_of ph (holding j.buffered) (take j.buffered.held m.buffered)

  turns : step_of c (core_of j m) ≡ cond (has_batch c (queued j.queue m.block)) (flushed_in turning_phase) (turned c o j m)
  turns = ap (λ (ph : PhaseOf). step c (phase_by ph) (streamed_of j m) (buffered_of j m) (queued j.queue m.block) (counts_of j.counts)) turning

  -- a batch waits in the block: all is handed over
  pub turn_flushes : compared_as c j m ≡ None → step_of c (core_of j m) ≡ going (flushed c j m)
  turn_flushes none = turns ∙ go (has_batch c (queued j.queue m.block)) none ∙ ap (λ (ph : PhaseOf). flushed_in (phase_by ph)) (sym turning)
    where
      go : (b : Bool) → ◌≡◌ {A = Option Ordering} (cond b None (Some o)) None → cond b (flushed_in turning_phase) (turned c o j m) ≡ flushed_in turning_phase
      go true h = refl
      go false h = absurd (none-some o (sym h))

  pub turn_compares : (w : Ordering) → compared_as c j m ≡ Some w → step_of c (core_of j m) ≡ turned c w j m
  turn_compares w some = turns ∙ go (has_batch c (queued j.queue m.block)) some
    where
      go : (b : Bool) → ◌≡◌ {A = Option Ordering} (cond b None (Some o)) (Some w) → cond b (flushed_in turning_phase) (turned c o j m) ≡ turned c w j m
      go true h = absurd (none-some w h)
      go false h = let z : o ≡ w = cc in ap (λ (w : Ordering). turned c w j m) z
