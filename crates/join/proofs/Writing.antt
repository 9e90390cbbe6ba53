-- The machine's step on a streamed row and what is left to pair with it, by what stands written in the block.
use Rattle.std.proofs.Common.{◌≡◌, ℕ, ◌+◌, ◌-◌, ◌<◌, ◌≤◌, min, List, ◌++◌, length, get_or, take, drop, Some, Option, sym, refl, ap, ◌∙◌, arith}
use borrow.Rule.Slice.PartMut.{put_mid}
use Rattle.std.proofs.lemmas.List.{length-take, length-take-le, length-drop, length-append}
use Rattle.std.proofs.lemmas.Option.{slice_get_past}
use Rattle.rows.specs.declared.kind.Kind.{Kind}
use Rattle.rows.specs.declared.row.Row.{Row}
use Rattle.pipeline.specs.declared.entry.Entry.{Entry}
use Rattle.pipeline.specs.declared.held.BufferedData.{BufferedData}
use Rattle.pipeline.specs.Block.{Queued, queued, pushed, freeze_all}
use Rattle.pipeline.specs.Held.{Holding, holding, matching, run_at, pairs_with}
use Rattle.pipeline.specs.declared.queue.Queue.{Queue}
use Rattle.pipeline.specs.declared.states.FilterState.{FilterState}
use Rattle.pipeline.specs.Freezing.{judged_all}
use Rattle.pipeline.specs.States.{states_of, marking}
use Rattle.pipeline.proofs.Queues.{room_from, gap_write, put_length, add_step}
use Rattle.machine.specs.Machine.{Setting, Phase, Streamed, Buffered, Counts, Outcome, let_go, deferred, going, core, pairing, passing, with_holding, freeze_full, pair_row, step, step_of, row_at}
use Rattle.join.specs.declared.phase.Phase.{Phase as PhaseOf}
use Rattle.join.specs.declared.phase.Phase.TheVariants.{Pairing}
use Rattle.join.specs.declared.phase.Pairs.{Pairs}
use Rattle.join.specs.declared.state.Join.{Join}
use Rattle.join.specs.Phases.{pending}
use Rattle.join.specs.Shows.{Memory, with_tables, FitsTables, FitsMemory, Ready, core_of, streamed_of, buffered_of, counts_of, phase_of}
use Rattle.join.specs.Pairing.{adding}
use Rattle.join.proofs.Comparing.{row_taken}
use Rattle.join.proofs.Turning.{freeze_waits, freeze_fills}
use Rattle.join.proofs.Pairs.{taken_now, left_over, none_left, some_left, run_held, pairs_length, pairs_end, pairs_go_on, written_there}

pub fits_memory : {K : Type 0} {j : Join K} {streamed buffered : List (Row K)} {block : List Entry} → Ready j block → FitsTables j.limits streamed buffered → (m : Memory K) → FitsMemory j.limits (with_tables streamed buffered block m)
fits_memory ready tables m = record { streamed_length = tables.streamed_length; buffered_length = tables.buffered_length; block_length = ready.block_length }

-- the buffered side of a join whose held batches are otherwise known
abbrev known : {K : Type 0} → Join K → Memory K → Holding → Buffered K
known j m h = record { batches = m.buffered_batches; closing = m.buffered_closing; holding = h; rows = take h.held m.buffered; states = states_of j.states; ended = j.buffered_ended; last = j.buffered_last }

module _ {K : Type 0} (c : Setting K) (j : Join K) (m : Memory K) (fits : FitsMemory j.limits m) (pairs : Pairs) (is_phase : j.phase ≡ Pairing pairs) where
  abbrev st : Streamed K
  st = streamed_of j m

  abbrev bf : Buffered K
  bf = buffered_of j m

  abbrev q : Queued
  q = queued j.queue m.block

  abbrev n : Counts
  n = counts_of j.counts

  -- the rows of the run from where the pairs go on
  abbrev pub rest : List (ℕ × Row K)
  rest = run_at (holding j.buffered) pairs.batch pairs.row m.buffered

  starts : step_of c (core_of j m) ≡ pair_row c (row_at j.streamed.at (take j.streamed.rows m.streamed)) (take pairs.left rest) st bf q n
  starts =
      ap (λ (ph : PhaseOf). step c (phase_of ph (holding j.buffered) (take j.buffered.held m.buffered)) st bf q n) is_phase
      ∙ ap (λ (l : List (ℕ × Row K)). pair_row c (row_at j.streamed.at (take j.streamed.rows m.streamed)) (take pairs.left l) st bf q n) (run_held j.buffered pairs.batch pairs.row m.buffered)

  -- no streamed row is left
  pub passes : j.streamed.rows ≤ j.streamed.at → step_of c (core_of j m) ≡ going (core st bf q n passing)
  passes past =
      starts
      ∙ ap (λ (o : Option (Row K)). pair_row c o (take pairs.left rest) st bf q n) (slice_get_past (take j.streamed.rows m.streamed) j.streamed.at (omega (arith, length-take j.streamed.rows m.streamed)))

  module _ (is_kind : c.kind ≡ j.limits.kind) (is_size : c.size ≡ j.limits.batch) (within : j.streamed.at < j.streamed.rows) (x : Row K) (is_row : x ≡ get_or m.streamed j.streamed.at x)
      (k : ℕ) (now : k ≡ min (length rest) (min pairs.left (j.limits.batch - j.queue.unfrozen))) where
    steps : step_of c (core_of j m) ≡ pair_row c (Some x) (take pairs.left rest) st bf q n
    steps = starts ∙ rw (row_taken j.streamed.at j.streamed.rows m.streamed x within (omega arith) is_row) refl

    abbrev space : ℕ
    space = j.limits.batch - j.queue.unfrozen

    space_is : c.size - length q.unfrozen ≡ space
    space_is =
        let u : length (take j.queue.unfrozen (drop j.queue.frozen m.block)) ≡ j.queue.unfrozen =
        length-take-le j.queue.unfrozen (drop j.queue.frozen m.block) (omega (arith, length-drop j.queue.frozen m.block)) in
        omega arith

    -- no row is left to pair
    pub ends : k ≡ 0 → step_of c (core_of j m) ≡ going (core st (with_holding c (matching (holding j.buffered)) bf) q n passing)
    ends none = steps ∙ pairs_end c x (take pairs.left rest) st bf q n (none_left rest pairs.left space k now none (omega arith))

    abbrev after : Kind → List (ℕ × Row K) → List (ℕ × Row K) → Outcome K
    after kind paired left = freeze_full c (pairing left) st bf (pushed (pairs_with kind (record { batch = j.streamed.first; row = j.streamed.at }) (j.streamed.first + j.streamed.at) x.reading paired) q) n

    -- k rows are paired, and the others stay
    pub goes_on : 1 ≤ k → (b r : ℕ) → run_at (holding j.buffered) b r m.buffered ≡ drop k rest
        → step_of c (core_of j m) ≡ after j.limits.kind (take k rest) (take (pairs.left - k) (run_at (holding j.buffered) b r (take j.buffered.held m.buffered)))
    goes_on some b r left =
        steps ∙ pairs_go_on c x (take pairs.left rest) st bf q n (some_left rest pairs.left space k now some)
        ∙ rw (space_is, taken_now rest pairs.left space k now, left_over rest pairs.left space k now, run_held j.buffered b r m.buffered, left) (ap (λ (kind : Kind). after kind (take k rest) (take (pairs.left - k) (drop k rest))) is_kind)

    module _ (block : List Entry) (shown : queued j.queue block ≡ q) where
      pub ends_shown : k ≡ 0 → (d : BufferedData) → holding d ≡ matching (holding j.buffered) → step_of c (core_of j m) ≡ going (core st (known j m (holding d)) (queued j.queue block) n passing)
      ends_shown none d matched = ends none ∙ ap (λ (h : Holding). going (core st (known j m h) q n passing)) (sym matched) ∙ rw shown refl

      pub goes_on_shown : 1 ≤ k → (b r : ℕ) → run_at (holding j.buffered) b r m.buffered ≡ drop k rest
          → take k (drop (j.queue.frozen + j.queue.unfrozen) block) ≡ pairs_with j.limits.kind (record { batch = j.streamed.first; row = j.streamed.at }) (j.streamed.first + j.streamed.at) x.reading (take k rest)
          → step_of c (core_of j m) ≡ freeze_full c (pairing (take (pairs.left - k) (run_at (holding j.buffered) b r (take j.buffered.held m.buffered)))) st bf (pushed (take k (drop (j.queue.frozen + j.queue.unfrozen) block)) (queued j.queue block)) n
      goes_on_shown some b r left there =
          let todo = take (pairs.left - k) (run_at (holding j.buffered) b r (take j.buffered.held m.buffered)) in
          goes_on some b r left
          ∙ rw (← there) (ap (λ (z : Queued). freeze_full c (pairing todo) st bf (pushed (take k (drop (j.queue.frozen + j.queue.unfrozen) block)) z) n) (sym shown))

-- The block, where k of the entries that a part of it has room for were written at that part's start.
module _ {K : Type 0} (j : Join K) (block es old ys : List Entry) (e k : ℕ) (none_due : j.queue.due ≡ 0) (is_old : length old ≡ e) (is_es : length es ≡ k) (few : k ≤ e) (is_ys : ys ≡ es ++ drop k old)
    (room : j.queue.frozen + j.queue.unfrozen + e + j.queue.noted ≤ length block) where
  abbrev from : ℕ
  from = j.queue.frozen + j.queue.unfrozen

  ys_long : length ys ≡ e
  ys_long = ap length is_ys ∙ length-append es (drop k old) ∙ omega (arith, length-drop k old)

  pub put_long : length (put_mid from e block ys) ≡ length block
  put_long = put_length from e block ys ys_long (omega arith)

  pub put_shown : queued j.queue (put_mid from e block ys) ≡ queued j.queue block
  put_shown = gap_write j.queue block ys from e none_due ys_long (omega arith) (omega arith)

  pub put_there : take k (drop from (put_mid from e block ys)) ≡ es
  put_there = ap (λ (l : List Entry). take k (drop from (put_mid from e block l))) is_ys ∙ written_there block es old from e k is_es is_old few (omega arith)

-- A scan of the run. It had the part of the block behind the unfrozen, for as many entries as are left to pair and have room, and
-- it left `ys` there, the first k of which are pairs of the streamed row, which was read as `d`.
module _ {K : Type 0} (j : Join K) (pairs : Pairs) (streamed buffered : List (Row K)) (block ys : List Entry) (most k : ℕ) (d : Row K) where
  abbrev behind : ℕ
  behind = j.queue.frozen + j.queue.unfrozen

  abbrev width : ℕ
  width = (behind + most) - behind

  abbrev old : List Entry
  old = take width (drop behind block)

  abbrev row : Row K
  row = get_or streamed j.streamed.at d

  abbrev run : List (ℕ × Row K)
  run = run_at (holding j.buffered) pairs.batch pairs.row buffered

  abbrev es : List Entry
  es = pairs_with j.limits.kind (record { batch = j.streamed.first; row = j.streamed.at }) (j.streamed.first + j.streamed.at) row.reading (take k run)

  pub record Scanned : Type 0 where
    pub phase : j.phase ≡ Pairing pairs
    pub ready : Ready j block
    pub tables : FitsTables j.limits streamed buffered
    pub within : j.streamed.at < j.streamed.rows
    pub is_row : d ≡ get_or streamed j.streamed.at d
    pub is_most : most ≡ min pairs.left (j.limits.batch - j.queue.unfrozen)
    pub count : k ≡ min (length run) (length old)
    pub written : ys ≡ es ++ drop k old

  module _ (w : Scanned) where
    left_is : pending j.phase ≡ pairs.left
    left_is = ap pending w.phase

    is_old : length old ≡ width
    is_old = length-take-le width (drop behind block) (omega (arith, length-drop behind block, left_is, w.is_most, w.ready.block_length))

    is_now : k ≡ min (length run) (min pairs.left (j.limits.batch - j.queue.unfrozen))
    is_now = omega (arith, w.count, is_old, w.is_most)

    is_es : length es ≡ k
    is_es = pairs_length j.limits.kind (record { batch = j.streamed.first; row = j.streamed.at }) (j.streamed.first + j.streamed.at) row.reading (take k run) ∙ length-take-le k run (omega (arith, w.count))

    fits_part : behind + width + j.queue.noted ≤ length block
    fits_part = omega (arith, left_is, w.is_most, w.ready.block_length)

    row_is : row ≡ get_or streamed j.streamed.at row
    row_is = ap (λ (x : Row K). get_or streamed j.streamed.at x) w.is_row

    abbrev block' : List Entry
    block' = put_mid behind width block ys

    few_written : k ≤ width
    few_written = omega (arith, w.count, is_old)

    shown : queued j.queue block' ≡ queued j.queue block
    shown = put_shown j block es old ys width k w.ready.none_due is_old is_es few_written w.written fits_part

    pub scan_long : length block' ≡ length block
    scan_long = put_long j block es old ys width k w.ready.none_due is_old is_es few_written w.written fits_part

    pub scan_left : k + (pairs.left - k) ≤ pending j.phase
    scan_left = omega (arith, left_is, is_now)

    pub scan_room : j.queue.unfrozen + k ≤ j.limits.batch
    scan_room = omega (arith, is_now)

    module _ (c : Setting K) (is_kind : c.kind ≡ j.limits.kind) (is_size : c.size ≡ j.limits.batch) (given : Memory K) where
      abbrev m : Memory K
      m = with_tables streamed buffered block given

      fitting : FitsMemory j.limits m
      fitting = fits_memory w.ready w.tables given

      pub scan_ends : k ≡ 0 → (held : BufferedData) → holding held ≡ matching (holding j.buffered)
          → step_of c (core_of j m) ≡ going (core (streamed_of j m) (known j m (holding held)) (queued j.queue block') (counts_of j.counts) passing)
      scan_ends = ends_shown c j m fitting pairs w.phase is_kind is_size w.within row row_is k is_now block' shown

      pub scan_goes_on : 1 ≤ k → (b r : ℕ) → run_at (holding j.buffered) b r buffered ≡ drop k run
          → step_of c (core_of j m) ≡ freeze_full c (pairing (take (pairs.left - k) (run_at (holding j.buffered) b r (take j.buffered.held buffered)))) (streamed_of j m) (buffered_of j m) (pushed (take k (drop behind block')) (queued j.queue block')) (counts_of j.counts)
      scan_goes_on some b r left =
          goes_on_shown c j m fitting pairs w.phase is_kind is_size w.within row row_is k is_now block' shown some b r left
          (put_there j block es old ys width k w.ready.none_due is_old is_es few_written w.written fits_part)

-- n entries behind the unfrozen join them, and all is frozen when these reach the batch size.
module _ {K : Type 0} (c : Setting K) (j : Join K) (m : Memory K) (is_size : c.size ≡ j.limits.batch) (n : ℕ) (none_due : j.queue.due ≡ 0) (room : j.queue.frozen + j.queue.unfrozen + j.queue.noted + n ≤ length m.block) where
  -- the queue with the entries counted
  abbrev counted : Queue
  counted = record { next = j.queue.next; due = j.queue.due; frozen = j.queue.frozen; unfrozen = j.queue.unfrozen + n; noted = j.queue.noted }

  abbrev next : Phase K
  next = phase_of j.phase (holding j.buffered) (take j.buffered.held m.buffered)

  counted_long : length (queued counted m.block).unfrozen ≡ j.queue.unfrozen + n
  counted_long = length-take-le (j.queue.unfrozen + n) (drop j.queue.frozen m.block) (omega (arith, length-drop j.queue.frozen m.block))

  adds : adding c n j m ≡ freeze_full c next (streamed_of j m) (buffered_of j m) (queued counted m.block) (counts_of j.counts)
  adds =
      let possible = room_from n j.queue m.block none_due room in
      ap (λ (z : Queued). freeze_full c next (streamed_of j m) (buffered_of j m) z (counts_of j.counts)) (sym ((add_step j.queue m.block n possible).made possible))

  pub adds_shown : j.queue.unfrozen + n < j.limits.batch → adding c n j m ≡ going (core (streamed_of j m) (buffered_of j m) (queued counted m.block) (counts_of j.counts) next)
  adds_shown few = adds ∙ freeze_waits c next (streamed_of j m) (buffered_of j m) (queued counted m.block) (counts_of j.counts) (omega (arith, counted_long))

  pub freezes_shown : j.limits.batch ≤ j.queue.unfrozen + n → (states : List FilterState) (q' : Queued)
      → states ≡ marking c.kind j.buffered.base (judged_all c.asks (queued counted m.block).unfrozen) (states_of j.states) → q' ≡ let_go (deferred c) (freeze_all c.asks (queued counted m.block))
      → adding c n j m ≡ going (core (streamed_of j m) (record { batches = m.buffered_batches; closing = m.buffered_closing; holding = holding j.buffered; rows = take j.buffered.held m.buffered; states = states; ended = j.buffered_ended; last = j.buffered_last }) q' (counts_of j.counts) next)
  freezes_shown full states q' marks holds = adds ∙ freeze_fills c next (streamed_of j m) (buffered_of j m) (queued counted m.block) (counts_of j.counts) (omega (arith, counted_long)) states q' marks holds
