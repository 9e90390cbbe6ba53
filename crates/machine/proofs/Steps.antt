-- The plain machine follows every small step, every call and every run of a join.
use Rattle.std.proofs.Common.{◌≡◌, ℕ, ◌+◌, ◌-◌, ◌<◌, ◌≤◌, Bool, true, false, cond, List, [], ◌∷◌, ◌++◌, map, length, drop, replicate, Ok, Err, sym, refl, ap, ◌∙◌, subst, arith}
use mathlib.Core.List.{nil≢cons}
use Rattle.std.proofs.lemmas.List.{map-append}
use Rattle.rows.specs.declared.kind.Kind.{Kind}
use Rattle.rows.specs.declared.record.Record.{Record}
use Rattle.rows.specs.declared.row.Row.{Row}
use Rattle.rows.specs.Order.{Laws}
use Rattle.sources.specs.declared.fault.SourceFault.{SourceFault}
use Rattle.merge.specs.Table.{when}
use Rattle.merge.specs.Merging.{by_key}
use Rattle.sources.specs.Meaning.{Closing}
use Rattle.rows.specs.Sides.{oriented}
use Rattle.rows.specs.Sides.{is_full as is_full_kind}
use Rattle.merge.proofs.Sides.{oriented_twice}
use Rattle.law.specs.Pipe.{Mark, unseen, pipe, places}
use Rattle.law.specs.Machine as plain_machine
use Rattle.law.specs.Machine.{gives, answered}
use Rattle.law.specs.Law as plain_law
use Rattle.law.proofs.Totals.{total, total_append}
use Rattle.law.proofs.Pipes.{unseens, unseens_total}
use Rattle.law.proofs.Rows.{noted_unseen}
use Rattle.law.proofs.Holds.{Inv, Kept, kept_micro, ReadyS, ReadyB, PassingAt, PairingAt}
use Rattle.pipeline.specs.States.{marking}
use Rattle.pipeline.specs.Freezing.{judged_all}
use Rattle.pipeline.specs.Block.{Queued}
use Rattle.machine.specs.declared.answer.Answer.TheVariants.{Waiting, Finished}
use Rattle.machine.specs.Machine.{Setting, Told, Phase, fetching, seeding, extending, closing, turning, passing, done, pairing, stopped, Streamed, Buffered, Counts, Core, core, Outcome, row_at, step, is_lone, Moved, goes, hands_over, says, moved, handed, micro_due, micro, counted_record, Turned, answers, steps, hands}
use Rattle.machine.specs.Machine.{going as one_on, answered as one_said}
use Rattle.machine.proofs.Entries.{mark_of, entry_of, place_of, marking_is}
use Rattle.machine.proofs.Plain.{answer_of, row_of, phase_of, streamed_of, buffered_of, run_of, counts_of, plain_setting, state_at, state_of, Whole}
use Rattle.machine.proofs.Follows.{Walk, stay, walk, calm, PlainState, WholeCore, Followed, follows_pair, follows_pass, follows_close}
use Rattle.machine.proofs.Fetch.{follows_fetch}
use Rattle.machine.proofs.Grow.{follows_seed, follows_extend}
use Rattle.machine.proofs.Leave.{place_at}
use Rattle.machine.proofs.Turn.{noted_now, now_places, run_length, TurnReady, follows_turn}

module _ {K V : Type 0} (c : Setting K) (fits : V → Record → Bool) (after : V → Record → V) (batch_of : ℕ → ℕ) (sized : 1 ≤ c.size)
    (laws : Laws (by_key c.within) (by_key c.across)) (fair : plain_law.Fair (plain_setting c fits after)) (sl : List (List (Row K))) (sc : Closing) (bl : List (List (Row K))) (bc : Closing) (v₀ : V) where
  abbrev plain : plain_machine.Setting (Row K) V
  plain = plain_setting c fits after

  abbrev State : Type 0
  State = PlainState c fits after batch_of sized

  abbrev Follow : State → V → Outcome K → Type 0
  Follow = Followed c fits after batch_of sized

  abbrev Holds : List Record → ℕ → ℕ → State → Type 0
  Holds = Inv plain laws sl sc bl bc v₀

  -- ---- what the plain machine's invariant says of a join that turns

  ready_row : (rows : List (Row K)) (en o : Bool) → ReadyS plain laws sl sc bl bc v₀ rows en o → rows ≡ [] → en ≡ true
  ready_row [] true o h e = refl
  ready_row [] false o h e = absurd h
  ready_row (x ∷ rows) en o h e = absurd (nil≢cons (sym e))

  ready_run : (run beyond : List (Row K)) (en o : Bool) → ReadyB plain laws sl sc bl bc v₀ run beyond en o → run ≡ [] → en ≡ true
  ready_run [] [] true o h e = refl
  ready_run [] [] false o h e = absurd h
  ready_run [] (x ∷ beyond) en o h e = absurd h
  ready_run (y ∷ run) beyond en o h e = absurd (nil≢cons (sym e))

  ready_open : (run beyond : List (Row K)) (en o : Bool) → ReadyB plain laws sl sc bl bc v₀ run beyond en o → 0 < length run → en ≡ false
  ready_open [] beyond en o h lt = absurd (omega arith)
  ready_open (y ∷ run) [] true o h lt = absurd h
  ready_open (y ∷ run) [] false o h lt = refl
  ready_open (y ∷ run) (x ∷ beyond) true o h lt = absurd h
  ready_open (y ∷ run) (x ∷ beyond) false o h lt = refl

  ready : (out : List Record) (m most : ℕ) (st : Streamed K) (bf : Buffered K) (q : Queued) (n : Counts) (v : V) → Whole c batch_of st bf q turning → Holds out m most (state_at c st bf q n turning v) → TurnReady c fits after batch_of sized st bf q
  ready out m most st bf q n v w i = record {
    not_both = i.now.1;
    row_or_end = ready_row (drop st.at st.rows) st.ended (plain_law.over false st.batches st.closing) i.now.0.0;
    run_or_end = ready_run (run_of bf) (drop bf.holding.end bf.rows) bf.ended (plain_law.over false bf.batches bf.closing) i.now.0.1;
    run_open = λ lt. ready_open (run_of bf) (drop bf.holding.end bf.rows) bf.ended (plain_law.over false bf.batches bf.closing) i.now.0.1 (omega (arith, long));
    unpaired = λ lt f. unpaired lt f;
  }
    where
      long : length (run_of bf) ≡ bf.holding.end - bf.holding.start
      long = run_length c fits after batch_of sized bf w.buffered_side

      unpaired : bf.holding.start < bf.holding.end → (f : ℕ → ℕ) → total f (map (place_at c batch_of) (q.noted ++ noted_now c fits after batch_of sized (is_lone c bf) bf)) ≤ total f (unseens bf.holding.base (map mark_of (marking c.kind bf.holding.base (judged_all c.asks q.unfrozen) bf.states)))
      unpaired lt f =
          let k = i.core in
          let g = i.ghosts in
          let b = w.buffered_side in
          let now = noted_now c fits after batch_of sized (is_lone c bf) bf in
          let tail = replicate (length (drop bf.holding.end bf.rows)) unseen in
          omega (
            arith,
            (k.room (sized, omega (arith, b.in_table, b.in_held))).lone f,
            ap (total f) (map-append (place_at c batch_of) q.noted now),
            total_append f (map (place_at c batch_of) q.noted) (map (place_at c batch_of) now),
            ap (total f) (now_places c fits after batch_of sized (is_lone c bf) bf),
            noted_unseen (plain_law.passes plain) f (is_full_kind c.kind) bf.holding.matched g.passed (bf.holding.base + bf.holding.start) (run_of bf),
            ap (λ (z : ℕ). total f (when (is_lone c bf) (places (bf.holding.base + bf.holding.start) z))) long,
            ap (λ (z : List Mark). total f (unseens bf.holding.base z)) (marking_is c.kind c.asks bf.holding.base q.unfrozen bf.states ∙ k.held.are),
            unseens_total f bf.holding.base g.behind (g.here ++ tail),
            unseens_total f (bf.holding.base + length g.behind) g.here tail,
            ap (λ (z : ℕ). total f (unseens z g.here)) k.held.place,
            ap (λ (z : List Mark). total f (unseens (bf.holding.base + bf.holding.start) z)) i.now.0.2.here_is,
          )

  -- ---- one small step

  stays_so : (a : Told) (st : Streamed K) (bf : Buffered K) (q : Queued) (n : Counts) (ph : Phase K) (v : V) → plain_machine.micro plain (state_at c st bf q n ph v) ≡ answered (answer_of c.kind a) (state_at c st bf q n ph v) → Whole c batch_of st bf q ph → Follow (state_at c st bf q n ph v) v (one_said a (core st bf q n ph))
  stays_so a st bf q n ph v e w = (state_at c st bf q n ph v, stay, e, w)

  pub follows_step : (out : List Record) (m most : ℕ) (ph : Phase K) (st : Streamed K) (bf : Buffered K) (q : Queued) (n : Counts) (v : V) → q.due ≡ [] → Whole c batch_of st bf q ph → Holds out m most (state_at c st bf q n ph v) → Follow (state_at c st bf q n ph v) v (step c ph st bf q n)
  follows_step out m most (fetching first) st bf q n v z w i = follows_fetch c fits after batch_of sized first st bf q n v z w
  follows_step out m most (seeding first) st bf q n v z w i = follows_seed c fits after batch_of sized first st bf q n v z w
  follows_step out m most (extending first) st bf q n v z w i = follows_extend c fits after batch_of sized first st bf q n v z w
  follows_step out m most (closing first) st bf q n v z w i = follows_close c fits after batch_of sized first st bf q n v z w
  follows_step out m most turning st bf q n v z w i = follows_turn c fits after batch_of sized st bf q n v z w (ready out m most st bf q n v w i)
  follows_step out m most (pairing todo) st bf q n v z w i = follows_pair c fits after batch_of sized (row_at st.at st.rows) todo st bf q n v refl (λ e. subst (λ r. PairingAt plain laws sl sc bl bc v₀ i.ghosts r (run_of bf) (streamed_of st) (buffered_of bf) (plain_law.over false st.batches st.closing) (plain_law.over false bf.batches bf.closing) (map row_of todo) ((bf.holding.base + bf.holding.end) - length todo)) e i.now.0) z w
  follows_step out m most passing st bf q n v z w i = go (drop st.at st.rows) refl
    where
      go : (r : List (Row K)) → drop st.at st.rows ≡ r → Follow (state_at c st bf q n passing v) v (step c passing st bf q n)
      go [] e = absurd (subst (λ r. PassingAt plain laws sl sc bl bc v₀ i.ghosts r (streamed_of st) (buffered_of bf) (plain_law.over false st.batches st.closing) (plain_law.over false bf.batches bf.closing)) e i.now)
      go (x ∷ r) e = follows_pass c fits after batch_of sized st bf q n v (λ f. nil≢cons (sym f ∙ e)) (subst (λ r. PassingAt plain laws sl sc bl bc v₀ i.ghosts r (streamed_of st) (buffered_of bf) (plain_law.over false st.batches st.closing) (plain_law.over false bf.batches bf.closing)) e i.now).not_ended z w
  follows_step out m most done st bf q n v z w i = stays_so (Ok Finished) st bf q n done v (calm plain _ _ _ _ _ _ _ (map (oriented c.kind) q.due) _ v _ (ap (map (oriented c.kind)) z)) w
  follows_step out m most (stopped f) st bf q n v z w i = stays_so (Err f) st bf q n (stopped f) v (calm plain _ _ _ _ _ _ _ (map (oriented c.kind) q.due) _ v _ (ap (map (oriented c.kind)) z)) w

  -- ---- with the sink

  abbrev pub Moves : State → Moved K V → Type 0
  Moves s (goes t v) = Walk plain s (state_of c t v) × WholeCore c fits after batch_of sized t
  Moves s (hands_over x t v) = (plain_machine.micro plain s ≡ gives (oriented c.kind x) (state_of c t v)) × WholeCore c fits after batch_of sized t
  Moves s (says a t v) = (s' : State) × Walk plain s s' × (plain_machine.micro plain s' ≡ answered (answer_of c.kind a) (state_of c t v)) × WholeCore c fits after batch_of sized t

  moves_step : (s : State) (v : V) (o : Outcome K) → Follow s v o → Moves s (moved c fits after o v)
  moves_step s v (one_on t) h = h
  moves_step s v (one_said a t) h = h

  moves_due : (out : List Record) (m most : ℕ) (due : List Record) (ph : Phase K) (st : Streamed K) (bf : Buffered K) (q : Queued) (n : Counts) (v : V) → q.due ≡ due → Whole c batch_of st bf q ph → Holds out m most (state_at c st bf q n ph v) → Moves (state_at c st bf q n ph v) (micro_due c fits after due st bf q n ph v)
  moves_due out m most [] ph st bf q n v e w i = moves_step (state_at c st bf q n ph v) v (step c ph st bf q n) (follows_step out m most ph st bf q n v e w i)
  moves_due out m most (x ∷ due) ph st bf q n v e w i = go (fits v x) refl
    where
      s : State
      s = state_at c st bf q n ph v

      kind : Kind
      kind = c.kind

      at_due : List Record → plain_machine.Outcome (Row K) SourceFault V
      at_due l = plain_machine.micro plain (plain_machine.state (streamed_of st) (buffered_of bf) (pipe bf.holding.base (map mark_of bf.states) (map (place_of c.kind c.asks) q.noted) (map (entry_of c.kind c.asks) q.unfrozen) (map (entry_of c.kind c.asks) q.frozen) l) (counts_of n) v (phase_of c.kind (bf.holding.base + bf.holding.end) ph))

      given : V → plain_machine.Outcome (Row K) SourceFault V
      given v' = gives (oriented c.kind x) (state_at c st bf (handed c fits after due q) (counted_record n) ph v')

      waits : List Record → plain_machine.Outcome (Row K) SourceFault V
      waits l = answered plain_machine.waiting (plain_machine.state (streamed_of st) (buffered_of bf) (pipe bf.holding.base (map mark_of bf.states) (map (place_of c.kind c.asks) q.noted) (map (entry_of c.kind c.asks) q.unfrozen) (map (entry_of c.kind c.asks) q.frozen) l) (counts_of n) v (phase_of c.kind (bf.holding.base + bf.holding.end) ph))

      same_fit : fits v (oriented c.kind (oriented c.kind x)) ≡ fits v x
      same_fit = ap (fits v) (oriented_twice c.kind x)

      base_eq : plain_machine.micro plain s ≡ cond (fits v (oriented c.kind (oriented c.kind x))) (given (after v (oriented c.kind (oriented c.kind x)))) (waits (map (oriented c.kind) (x ∷ due)))
      base_eq = ap (λ (l : List Record). at_due (map (oriented c.kind) l)) e

      go : (b : Bool) → fits v x ≡ b → Moves s (cond b (hands_over x (core st bf (handed c fits after due q) (counted_record n) ph) (after v x)) (says (Ok Waiting) (core st bf q n ph) v))
      go true f = (
        base_eq ∙ ap (λ (b : Bool). cond b (given (after v (oriented c.kind (oriented c.kind x)))) (waits (map (oriented c.kind) (x ∷ due)))) (same_fit ∙ f) ∙ ap (λ (r : Record). given (after v r)) (oriented_twice c.kind x),
        record { streamed_side = w.streamed_side; buffered_side = w.buffered_side; block = record { made = w.block.made; frozen = w.block.frozen; noted = w.block.noted; behind = w.block.behind; short = w.block.short; at_once = w.block.at_once }; poised = w.poised },
      )
      go false f = (s, stay, base_eq ∙ ap (λ (b : Bool). cond b (given (after v (oriented c.kind (oriented c.kind x)))) (waits (map (oriented c.kind) (x ∷ due)))) (same_fit ∙ f) ∙ ap (λ (l : List Record). waits (map (oriented c.kind) l)) (sym e), w)

  pub follows_micro : (out : List Record) (m most : ℕ) (t : Core K) (v : V) → WholeCore c fits after batch_of sized t → Holds out m most (state_of c t v) → Moves (state_of c t v) (micro c fits after t v)
  follows_micro out m most (core st bf q n ph) v w i = moves_due out m most q.due ph st bf q n v refl w i

  -- ---- one call

  kept_walk : (out : List Record) (m most : ℕ) {s s' : State} → Walk plain s s' → Holds out m most s → Holds out m most s'
  kept_walk out m most stay i = i
  kept_walk out m most (walk {s = s} e w) i = kept_walk out m most w (subst (Kept plain laws sl sc bl bc v₀ out m most) e (kept_micro plain laws sl sc bl bc v₀ out m most fair s i))

  walked : {s s' s'' : State} {l : List Record} {a : plain_machine.Answer SourceFault} → Walk plain s s' → plain_machine.Turned plain s' l a s'' → plain_machine.Turned plain s l a s''
  walked stay t = t
  walked (walk e w) t = plain_machine.steps e (walked w t)

  pub follows_call : {t t' : Core K} {v v' : V} {l : List Record} {a : Told} → Turned c fits after t v l a t' v' → (out : List Record) (m most : ℕ) → WholeCore c fits after batch_of sized t → Holds out m most (state_of c t v)
      → plain_machine.Turned plain (state_of c t v) (map (oriented c.kind) l) (answer_of c.kind a) (state_of c t' v') × WholeCore c fits after batch_of sized t'
  follows_call (answers {s = t} {v = v} e) out m most w i =
      let k = subst (Moves (state_of c t v)) e (follows_micro out m most t v w i) in
      (walked k.1 (plain_machine.answers k.2), k.3)
  follows_call (steps {s = t} {v = v} e u) out m most w i =
      let k = subst (Moves (state_of c t v)) e (follows_micro out m most t v w i) in
      let r = follows_call u out m most k.1 (kept_walk out m most k.0 i) in
      (walked k.0 r.0, r.1)
  follows_call (hands {s = t} {v = v} {x = x} e u) out m most w i =
      let k = subst (Moves (state_of c t v)) e (follows_micro out m most t v w i) in
      let r = follows_call u (out ++ oriented c.kind x ∷ []) m most k.1 (subst (Kept plain laws sl sc bl bc v₀ out m most) k.0 (kept_micro plain laws sl sc bl bc v₀ out m most fair (state_of c t v) i)) in
      (plain_machine.hands k.0 r.0, r.1)
