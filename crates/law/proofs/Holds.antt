-- The invariant of the machine, and the law.
use Rattle.std.proofs.Common.{◌≡◌, ℕ, zero, suc, ◌+◌, ◌-◌, ◌<◌, ◌≤◌, min, Bool, true, false, cond, not, ◌&&◌, leb, ◌⊎◌, List, [], ◌∷◌, ◌++◌, length, take, replicate, Some, None, Option, Ok, Err, Ordering, Less, Equal, Greater, sym, refl, ap, ◌∙◌, subst, inl, inr, ⊎_elim, true≢false, append_assoc, append-nil, add-one, arith, length-append}
use mathlib.Core.List.{nil≢cons}
use mathlib.Core.Bool.{false≢true}
use Rattle.std.specs.List.{ContainsAt as Has, AllByRecursion}
use Rattle.std.proofs.ByRecursion.{All-weaker, All-push}
use Rattle.std.proofs.lemmas.Bool.{and_parts, or_right, leb-true, cond_both}
use Rattle.rows.specs.Order.{Laws, rank, is_same}
use Rattle.merge.specs.Table.{when, meets_buffered, meets_streamed, pairs_of, lone_buffered}
use Rattle.merge.specs.Runs.{Sorted, runs}
use Rattle.merge.specs.Path.{matched as meeting, at, Turn, pass_row, pass_run, turn, State as path_state, Move, one_turn, one_row, one_run, tally, after, start, to_come}
use Rattle.merge.specs.Decided.{complete, decided, Follows, is_some, extended}
use Rattle.merge.proofs.Distincts.{all_front, distinct_front, distinct_perm, table_distinct}
use Rattle.merge.proofs.Shuffles.{shuffled_from_perm, all_have}
use Rattle.merge.proofs.Counts.{left, nothing_to_come}
use Rattle.std.proofs.lemmas.List.{take_at}
use Rattle.std.proofs.lemmas.List.Elements.{Contains-push_cases, Contains-from_at, at_from_Contains}
use mathlib.Core.List.Permᴰ
use mathlib.Core.List.{Permᴰ}
use Rattle.merge.proofs.Flags.{all_back}
use Rattle.merge.proofs.Steps.{matched_front, shuns_past, turn_keeps}
use Rattle.merge.proofs.Orders.{past_is_after, run_is_same}
use Rattle.merge.proofs.Stages.{Stage, stage, take_turn, read_streamed, read_buffered}
use Rattle.rows.specs.declared.record.Record.{Record}
use Rattle.rows.specs.declared.record.Record.TheVariants.{LeftAlone}
use Rattle.merge.proofs.Stages.{Good, FreshAt, good_act, fresh_act, good_blank}
use Rattle.merge.proofs.Prefixes.{turn_alike, with_more}
use Rattle.merge.proofs.Steps.{Shuns}
use Rattle.law.specs.Pipe.{Entry, fixed, judged, Mark, unseen, Pipe, pipe, settled, failures, alones, marking, places, note, part, marked, mark_at, freeze, flush, push}
use Rattle.law.specs.Machine.{on_streamed, on_buffered, disordered, oversized, overlong, crowded, from_source, Answer, waiting, finished, failed, Outcome, going, gives, answered, most_rows, most_batches, stops, after_fetch, fetch_checked, fetch_taken, fetch, load_checked, load, seed, extend, go_on, close, compare, compared, pass, step, micro, lone_row, opened, Turned, answers, steps, hands, pass_run as run_passed, turn as turn_step, Setting, Closing, Fault, Phase, fetching, seeding, extending, closing, turning, passing, done, pairing, stopped, Streamed, streamed, Buffered, buffered, Counts, counts, State, state, total_size, base_of, last_of, disorder, held_more, is_full, most_handed}
use Rattle.law.specs.Law.{Ample, in_block, mores, Runs, none, turned, reported, Lawful, Law, joined, InOrderAfter, turns_of, one_more, rows_in, is_over, over, streamed_failed, buffered_failed, Led, Fair, passes}
use Rattle.law.proofs.Totals.{total, total_append, Same, same_from_perm, perm_from_same}
use Rattle.law.proofs.Pipes.{Own, ModeOf, parts, From, apart_cut, worth_apart, Moded, mode_empty, Ranged, worth, worth_of, marks_of, OnlyDue, Frozen, frozen, flushed, Grown, grown, size_of, noted_of, unfrozen_of, due_of, unseens, unseens_total, unseen_few, length_total, low, Pushed, pushed, Parted, parted, moded_passed, worth_none, noted_worth, noted_mode, failures_total, marking_longer, more_range}
use Rattle.law.proofs.Rows.{Level, Stop, run_is, group_of, standing, Unmet, unmet_fresh, checked, length_standing, run_worth, standing_append, standing_same, unmet_push, mark_of, mark_push, mark_middle, group_push, settled_group, pairs_append, plain_group, sorted_on, noted_unseen}

-- what no code holds: the rows read of each log and those of a failing batch; the streamed rows passed; the buffered rows read and not passed;
-- what the turns gave; the marks of the rows held before the run and of the run; the pairs of the current row in the pipe
pub record Ghost (X : Type 0) : Type 0 where
  pub read_s : List X
  pub lost_s : List X
  pub read_b : List X
  pub lost_b : List X
  pub passed : List X
  pub ahead : List X
  pub gave : List Record
  pub behind : List Mark
  pub here : List Mark
  pub group : List Entry

pub record Read {X : Type 0} (within : X → X → Ordering) (log read lost : List X) (left : List (List X)) (last : Option X) (n : ℕ) (fails : Bool) : Type 0 where
  pub whole : log ≡ read ++ (lost ++ rows_in left)
  pub intact : fails ≡ false → lost ≡ []
  pub sorted : Sorted within read
  pub last_is : last_of None read ≡ last
  pub size : length read ≡ n

pub record Held {X : Type 0} (base : ℕ) (marks : List Mark) (sizes : List ℕ) (first : ℕ) (beyond ahead : List X) (behind here : List Mark) : Type 0 where
  pub sums : base + total_size sizes ≡ first + length ahead
  pub place : base + length behind ≡ first
  pub are : marks ≡ behind ++ (here ++ replicate (length beyond) unseen)
  pub drained : ahead ≡ [] → behind ≡ []

pub record Tally {V : Type 0} (fits : V → Record → Bool) (after : V → Record → V) (v₀ : V) (out : List Record) (turns rows runs handed place : ℕ) (v : V) : Type 0 where
  pub rows_are : rows ≡ place
  pub turns_are : turns ≡ rows + runs
  pub handed_are : handed ≡ min (length out) most_handed
  pub led : Led fits after v₀ out v

-- how much room there is in table and block
pub record Room (size table : ℕ) (p : Pipe) (sizes : List ℕ) (behind : List Mark) : Type 0 where
  pub lone : (f : ℕ → ℕ) → total f (noted_of p) ≤ total f (unseens (base_of p) behind)
  pub short : length (unfrozen_of p) < size
  pub in_table : total_size sizes ≤ table
  pub in_pipe : size_of p < size + table

abbrev pub s_left : {X F : Type 0} → Streamed X F → List (List X)
s_left (streamed l e rows place ended' last) = l

abbrev pub s_close : {X F : Type 0} → Streamed X F → Closing F
s_close (streamed l e rows place ended' last) = e

abbrev pub s_rows : {X F : Type 0} → Streamed X F → List X
s_rows (streamed l e rows place ended' last) = rows

abbrev pub s_place : {X F : Type 0} → Streamed X F → ℕ
s_place (streamed l e rows place ended' last) = place

abbrev pub s_ended : {X F : Type 0} → Streamed X F → Bool
s_ended (streamed l e rows place ended' last) = ended'

abbrev pub s_last : {X F : Type 0} → Streamed X F → Option X
s_last (streamed l e rows place ended' last) = last

abbrev pub b_left : {X F : Type 0} → Buffered X F → List (List X)
b_left (buffered l e sizes first run beyond ended' matched last) = l

abbrev pub b_close : {X F : Type 0} → Buffered X F → Closing F
b_close (buffered l e sizes first run beyond ended' matched last) = e

abbrev pub b_sizes : {X F : Type 0} → Buffered X F → List ℕ
b_sizes (buffered l e sizes first run beyond ended' matched last) = sizes

abbrev pub b_first : {X F : Type 0} → Buffered X F → ℕ
b_first (buffered l e sizes first run beyond ended' matched last) = first

abbrev pub b_run : {X F : Type 0} → Buffered X F → List X
b_run (buffered l e sizes first run beyond ended' matched last) = run

abbrev pub b_beyond : {X F : Type 0} → Buffered X F → List X
b_beyond (buffered l e sizes first run beyond ended' matched last) = beyond

abbrev pub b_ended : {X F : Type 0} → Buffered X F → Bool
b_ended (buffered l e sizes first run beyond ended' matched last) = ended'

abbrev pub b_matched : {X F : Type 0} → Buffered X F → Bool
b_matched (buffered l e sizes first run beyond ended' matched last) = matched

abbrev pub b_last : {X F : Type 0} → Buffered X F → Option X
b_last (buffered l e sizes first run beyond ended' matched last) = last

abbrev pub n_turns : Counts → ℕ
n_turns (counts turns rows runs handed) = turns

abbrev pub n_rows : Counts → ℕ
n_rows (counts turns rows runs handed) = rows

abbrev pub n_runs : Counts → ℕ
n_runs (counts turns rows runs handed) = runs

abbrev pub n_handed : Counts → ℕ
n_handed (counts turns rows runs handed) = handed

-- a turn may still be counted in this call
abbrev pub may_count : Bool → ℕ
may_count true = 1
may_count false = 0

-- a counted turn has yet to be answered
abbrev pub has_counted : Bool → ℕ
has_counted true = 0
has_counted false = 1

abbrev pub spare : {X F : Type 0} → Phase X F → ℕ
spare (fetching f) = may_count f
spare (seeding f) = may_count f
spare (extending f) = may_count f
spare (closing f) = may_count f
spare turning = 1
spare passing = 1
spare done = 0
spare (pairing todo j) = 1
spare (stopped f) = 0

abbrev pub unanswered : {X F : Type 0} → Phase X F → ℕ
unanswered (fetching f) = has_counted f
unanswered (seeding f) = has_counted f
unanswered (extending f) = has_counted f
unanswered (closing f) = has_counted f
unanswered turning = 0
unanswered passing = 0
unanswered done = 0
unanswered (pairing todo j) = 0
unanswered (stopped f) = 0

pub record Budget (mores cap turns spare unanswered : ℕ) : Type 0 where
  pub under : turns + spare ≤ cap
  pub told : mores + unanswered ≤ turns

pub led_push : {V : Type 0} (fits : V → Record → Bool) (after : V → Record → V) (v : V) (out : List Record) (w : V) (r : Record) → Led fits after v out w → fits w r ≡ true → Led fits after v (out ++ r ∷ []) (after w r)
led_push fits after v [] w r h e = (rw h e, rw h)
led_push fits after v (q ∷ out) w r h e = (h.0, led_push fits after (after v q) out w r h.1 e)

sizes_push : (sizes : List ℕ) (n : ℕ) → total_size (sizes ++ n ∷ []) ≡ total_size sizes + n
sizes_push [] n = omega arith
sizes_push (m ∷ sizes) n = omega (arith, sizes_push sizes n)

module _ {X F V : Type 0} (c : Setting X V) (laws : Laws c.within c.across) (sl : List (List X)) (sc : Closing F) (bl : List (List X)) (bc : Closing F) (v₀ : V) where
  same_only : (o : Ordering) → is_same o ≡ true → o ≡ Equal
  same_only Less e = cc
  same_only Equal e = refl
  same_only Greater e = cc

  pub only_same : (x y : X) → passes c x y ≡ true → c.across x y ≡ Equal
  only_same x y e = same_only (c.across x y) (and_parts _ (c.asks x y) e).0

  abbrev pub Safe : Stage X → Type 0
  Safe = Good c.within c.across (passes c) c.keeps_streamed c.keeps_buffered laws only_same

  abbrev pub Fresh : Stage X → Type 0
  Fresh = FreshAt c.within c.across (passes c) c.keeps_streamed c.keeps_buffered laws only_same

  abbrev pub turn_at : path_state X → Turn X
  turn_at = turn c.within c.across (passes c) c.keeps_streamed c.keeps_buffered

  abbrev counted_to : (Move → ℕ) → ℕ → path_state X → ℕ
  counted_to = tally c.within c.across (passes c) c.keeps_streamed c.keeps_buffered

  abbrev gone_to : ℕ → path_state X → path_state X
  gone_to = after c.within c.across (passes c) c.keeps_streamed c.keeps_buffered

  -- where the path through the logs stands after as many turns
  pub record Trace (s b : List X) (turns nrows nruns : ℕ) (t : path_state X) : Type 0 where
    pub rows_are : counted_to one_row turns (start s b) ≡ nrows
    pub runs_are : counted_to one_run turns (start s b) ≡ nruns
    pub stands : gone_to turns (start s b) ≡ t

  counted_suc : (f : Move → ℕ) (n : ℕ) (t : path_state X) → counted_to f (suc n) t ≡ counted_to f n t + f (turn_at (gone_to n t)).passed
  counted_suc f zero t = omega arith
  counted_suc f (suc n) t = omega (arith, counted_suc f n (turn_at t).next)

  gone_suc : (n : ℕ) (t : path_state X) → gone_to (suc n) t ≡ (turn_at (gone_to n t)).next
  gone_suc zero t = refl
  gone_suc (suc n) t = gone_suc n (turn_at t).next

  trace_step : (s b s' b' : List X) (turns nrows nruns : ℕ) (t : path_state X) (u : Turn X) (so bo : Bool) (fs : Follows so s') (fb : Follows bo b') → decided c.within c.across so bo t ≡ true → turn_at t ≡ u → Trace s b turns nrows nruns (extended t s' b')
      → Trace s b (turns + 1) (nrows + one_row u.passed) (nruns + one_run u.passed) (extended u.next s' b')
  trace_step s b s' b' turns nrows nruns t u so bo fs fb d e h =
      let w = turn_alike c.within c.across so bo (passes c) c.keeps_streamed c.keeps_buffered s' b' fs fb t d ∙ ap (with_more c.within c.across so bo (passes c) c.keeps_streamed c.keeps_buffered s' b' fs fb) e in
      let q : turn_at (gone_to turns (start s b)) ≡ with_more c.within c.across so bo (passes c) c.keeps_streamed c.keeps_buffered s' b' fs fb u = ap turn_at h.stands ∙ w in
      record {
        rows_are = rw add-one (omega (arith, counted_suc one_row turns (start s b), h.rows_are, ap (λ (z : Turn X). one_row z.passed) q));
        runs_are = rw add-one (omega (arith, counted_suc one_run turns (start s b), h.runs_are, ap (λ (z : Turn X). one_run z.passed) q));
        stands = rw add-one (gone_suc turns (start s b) ∙ ap (λ (z : Turn X). z.next) q);
      }

  pub record Core' (g : Ghost X) (out : List Record) (s_left : List (List X)) (s_over : Bool) (rows : List X) (place : ℕ) (s_last : Option X)
      (b_left : List (List X)) (b_over : Bool) (sizes : List ℕ) (first : ℕ) (run beyond : List X) (b_last : Option X) (p : Pipe) (turns nrows nruns handed : ℕ) (v : V) (s_fails b_fails : Bool) : Type 0 where
    pub streamed_side : Read c.within (rows_in sl) g.read_s g.lost_s s_left s_last (place + length rows) s_fails
    pub buffered_side : Read c.within (rows_in bl) g.read_b g.lost_b b_left b_last (first + length g.ahead) b_fails
    pub ahead_is : g.ahead ≡ run ++ beyond
    pub good : Safe (stage g.read_s g.read_b s_over b_over [] g.gave turns (at g.passed place rows first g.ahead))
    pub fresh : Fresh (stage g.read_s g.read_b s_over b_over [] g.gave turns (at g.passed place rows first g.ahead))
    pub unmet : Unmet (passes c) g.passed beyond
    pub held : Held (base_of p) (marks_of p) sizes first beyond g.ahead g.behind g.here
    pub range : Ranged p
    pub own : AllByRecursion (Own place) g.group
    pub mode : Moded c.deferred c.size place g.group p
    pub owes : (f : Record → ℕ) → total f out + (worth_of f c.deferred p + total f (when c.keeps_buffered (failures (base_of p) g.behind))) ≡ total f g.gave + worth f c.deferred g.group
    pub tally : Tally c.fits c.after v₀ out turns nrows nruns handed place v
    pub room : Ample c → Room c.size c.buffered_table p sizes g.behind
    pub trace : (s' b' : List X) → Follows s_over s' → Follows b_over b' → Trace (g.read_s ++ s') (g.read_b ++ b') turns nrows nruns (at g.passed place (rows ++ s') first (g.ahead ++ b'))

  abbrev pub Core : Ghost X → List Record → Streamed X F → Buffered X F → Pipe → Counts → V → Bool → Bool → Type 0
  Core g out st bf p n v s_fails b_fails = Core' g out (s_left st) (over s_fails (s_left st) (s_close st)) (s_rows st) (s_place st) (s_last st)
      (b_left bf) (over b_fails (b_left bf) (b_close bf)) (b_sizes bf) (b_first bf) (b_run bf) (b_beyond bf) (b_last bf) p (n_turns n) (n_rows n) (n_runs n) (n_handed n) v s_fails b_fails

  -- a streamed row is at hand, or the side has ended
  abbrev pub ReadyS : List X → Bool → Bool → Type 0
  ReadyS [] true o = o ≡ true
  ReadyS [] false o = ⊥
  ReadyS (x ∷ rows) true o = ⊥
  ReadyS (x ∷ rows) false o = Unit {0}

  -- a whole run is at hand, or the side has ended
  abbrev pub ReadyB : List X → List X → Bool → Bool → Type 0
  ReadyB [] [] true o = o ≡ true
  ReadyB [] [] false o = ⊥
  ReadyB [] (z ∷ l) e o = ⊥
  ReadyB (y ∷ run) [] true o = ⊥
  ReadyB (y ∷ run) [] false o = Level c.within c.across laws y run × (o ≡ true)
  ReadyB (y ∷ run) (z ∷ l) true o = ⊥
  ReadyB (y ∷ run) (z ∷ l) false o = Level c.within c.across laws y run × (is_same (c.within y z) ≡ false)

  abbrev pub Begun : List X → Type 0
  Begun [] = ⊥
  Begun (y ∷ run) = Level c.within c.across laws y run

  -- no row is being paired
  pub record Rest' (group : List Entry) (here : List Mark) (passed run : List X) (matched : Bool) : Type 0 where
    pub group_none : group ≡ []
    pub here_is : here ≡ standing (passes c) matched passed run
    pub unmet_run : matched ≡ false → Unmet (passes c) passed run

  abbrev pub Rest : Ghost X → List X → Bool → Type 0
  Rest g run matched = Rest' g.group g.here g.passed run matched

  -- the turn passes the row x, and gives what is in the pipe
  pub record RowTurn' (passed ahead : List X) (place first : ℕ) (x : X) (rows : List X) (s_over b_over : Bool) : Type 0 where
    pub decides : decided c.within c.across s_over b_over (at passed place (x ∷ rows) first ahead) ≡ true
    pub is_row : turn_at (at passed place (x ∷ rows) first ahead) ≡ pass_row c.within c.across (passes c) c.keeps_streamed c.keeps_buffered passed place x rows first ahead

  abbrev pub RowTurn : Ghost X → ℕ → ℕ → X → List X → Bool → Bool → Type 0
  RowTurn g place first x rows so bo = RowTurn' g.passed g.ahead place first x rows so bo

  pub record Passing (g : Ghost X) (place first : ℕ) (x : X) (rows run beyond : List X) (matched s_ended b_ended s_over b_over : Bool) : Type 0 where
    pub turns_row : RowTurn g place first x rows s_over b_over
    pub worths : (f : Record → ℕ) → worth f c.deferred g.group ≡ total f (pass_row c.within c.across (passes c) c.keeps_streamed c.keeps_buffered g.passed place x rows first g.ahead).gives
    pub here_is : g.here ≡ standing (passes c) matched (g.passed ++ x ∷ []) run
    pub unmet_run : matched ≡ false → Unmet (passes c) (g.passed ++ x ∷ []) run
    pub unmet_beyond : Unmet (passes c) (g.passed ++ x ∷ []) beyond
    pub not_ended : s_ended ≡ false
    pub ready : ReadyB run beyond b_ended b_over

  pub record Pairing (g : Ghost X) (place first : ℕ) (x : X) (rows : List X) (y : X) (run beyond : List X) (matched' s_ended b_ended s_over b_over : Bool) (todo : List X) (j : ℕ) : Type 0 where
    pub turns_row : RowTurn g place first x rows s_over b_over
    pub paired : List X
    pub run_is : y ∷ run ≡ paired ++ todo
    pub place_is : j ≡ first + length paired
    pub same_run : AllByRecursion (λ z. c.across x z ≡ Equal) (y ∷ run)
    pub matched_is : meeting c.within c.across x g.ahead ≡ y ∷ run
    pub shuns : Shuns (passes c) x beyond
    pub group_is : g.group ≡ group_of (passes c) place x first paired
    pub here_is : g.here ≡ standing (passes c) true (g.passed ++ x ∷ []) paired ++ standing (passes c) matched' g.passed todo
    pub unmet_run : matched' ≡ false → Unmet (passes c) g.passed (y ∷ run)
    pub not_ended : s_ended ≡ false
    pub ready : ReadyB (y ∷ run) beyond b_ended b_over

  pub record Done (g : Ghost X) (s_over b_over : Bool) (rows : List X) : Type 0 where
    pub s_over_is : s_over ≡ true
    pub b_over_is : b_over ≡ true
    pub rows_none : rows ≡ []
    pub ahead_none : g.ahead ≡ []
    pub group_none : g.group ≡ []

  abbrev pub Opening : Bool → Buffered X F → Bool → Type 0
  Opening true bf o = (b_run bf ≡ []) × (b_beyond bf ≡ [])
  Opening false bf o = ReadyB (b_run bf) (b_beyond bf) (b_ended bf) o

  abbrev pub Fetching : Ghost X → Bool → List X → Buffered X F → Bool → Type 0
  Fetching g first [] bf o = Opening first bf o × Rest g (b_run bf) (b_matched bf)
  Fetching g first (x ∷ rows) bf o = ⊥

  abbrev pub PassingAt : Ghost X → List X → Streamed X F → Buffered X F → Bool → Bool → Type 0
  PassingAt g [] st bf so bo = ⊥
  PassingAt g (x ∷ rows) st bf so bo = Passing g (s_place st) (b_first bf) x rows (b_run bf) (b_beyond bf) (b_matched bf) (s_ended st) (b_ended bf) so bo

  abbrev pub PairingAt : Ghost X → List X → List X → Streamed X F → Buffered X F → Bool → Bool → List X → ℕ → Type 0
  PairingAt g [] run st bf so bo todo j = ⊥
  PairingAt g (x ∷ rows) [] st bf so bo todo j = ⊥
  PairingAt g (x ∷ rows) (y ∷ run) st bf so bo todo j = Pairing g (s_place st) (b_first bf) x rows y run (b_beyond bf) (b_matched bf) (s_ended st) (b_ended bf) so bo todo j

  abbrev pub Seeding : Ghost X → Streamed X F → Buffered X F → Bool → Type 0
  Seeding g st bf so = ReadyS (s_rows st) (s_ended st) so × (b_run bf ≡ []) × (g.group ≡ []) × (g.here ≡ [])

  abbrev pub Turning : Ghost X → Streamed X F → Buffered X F → Bool → Bool → Type 0
  Turning g st bf so bo = ReadyS (s_rows st) (s_ended st) so × ReadyB (b_run bf) (b_beyond bf) (b_ended bf) bo × Rest g (b_run bf) (b_matched bf)

  abbrev pub Now : Ghost X → Streamed X F → Buffered X F → Pipe → Phase X F → Bool → Bool → Type 0
  Now g st bf p (fetching first) so bo = Fetching g first (s_rows st) bf bo
  Now g st bf p (seeding first) so bo = Seeding g st bf so
  Now g st bf p (extending first) so bo = ReadyS (s_rows st) (s_ended st) so × Begun (b_run bf) × (b_ended bf ≡ false) × (b_matched bf ≡ false) × Rest g (b_run bf) (b_matched bf)
  Now g st bf p (closing first) so bo = Turning g st bf so bo
  Now g st bf p turning so bo = Turning g st bf so bo × ((s_ended st && b_ended bf) ≡ false)
  Now g st bf p passing so bo = PassingAt g (s_rows st) st bf so bo
  Now g st bf p done so bo = Done g so bo (s_rows st) × OnlyDue p
  Now g st bf p (pairing todo j) so bo = PairingAt g (s_rows st) (b_run bf) st bf so bo todo j × (Ample c → size_of p + length todo < c.size + (length g.behind + length (b_run bf)))
  Now g st bf p (stopped f) so bo = g.group ≡ []

  abbrev pub so_of : Streamed X F → Phase X F → Bool
  so_of st ph = over (streamed_failed ph) (s_left st) (s_close st)

  abbrev pub bo_of : Buffered X F → Phase X F → Bool
  bo_of bf ph = over (buffered_failed ph) (b_left bf) (b_close bf)

  pub record Inv' (out : List Record) (mores cap : ℕ) (st : Streamed X F) (bf : Buffered X F) (p : Pipe) (n : Counts) (v : V) (ph : Phase X F) : Type 0 where
    pub ghosts : Ghost X
    pub core : Core ghosts out st bf p n v (streamed_failed ph) (buffered_failed ph)
    pub budget : Budget mores cap (n_turns n) (spare ph) (unanswered ph)
    pub now : Now ghosts st bf p ph (so_of st ph) (bo_of bf ph)

  abbrev pub Inv : List Record → ℕ → ℕ → State X F V → Type 0
  Inv out mores cap (state st bf p n v ph) = Inv' out mores cap st bf p n v ph

  abbrev pub loses_b : Ghost X → List X → Ghost X
  loses_b g r = record { read_s = g.read_s; lost_s = g.lost_s; read_b = g.read_b; lost_b = r; passed = g.passed; ahead = g.ahead; gave = g.gave; behind = g.behind; here = g.here; group = g.group }

  -- ---- steps of the core

  ordered : (g : Ghost X) (out : List Record) (st : Streamed X F) (bf : Buffered X F) (p : Pipe) (n : Counts) (v : V) (df db : Bool) → Core g out st bf p n v df db → Sorted c.within (s_rows st) × Sorted c.within g.ahead
  ordered g out st bf p n v df db k =
      let h = k.good [] [] (λ e. refl) (λ e. refl) (rw append-nil k.streamed_side.sorted) (rw append-nil k.buffered_side.sorted) in
      let o = h.ordered in
      (rw append-nil at o.0, rw append-nil at o.1)

  mode_none : (g : Ghost X) (out : List Record) (st : Streamed X F) (bf : Buffered X F) (p : Pipe) (n : Counts) (v : V) (df db : Bool) → Core g out st bf p n v df db → g.group ≡ [] → Moded c.deferred c.size (s_place st) [] p
  mode_none g out st bf p n v df db k e = subst (λ l. Moded c.deferred c.size (s_place st) l p) e k.mode

  core_frozen : (g : Ghost X) (out : List Record) (st : Streamed X F) (bf : Buffered X F) (p q : Pipe) (n : Counts) (v : V) (df db : Bool) → Core g out st bf p n v df db → g.group ≡ [] → Frozen c.deferred c.size (s_place st) p q → Core g out st bf q n v df db
  core_frozen g out st bf p q n v df db k e r = record {
    streamed_side = k.streamed_side;
    buffered_side = k.buffered_side;
    ahead_is = k.ahead_is;
    good = k.good;
    fresh = k.fresh;
    unmet = k.unmet;
    held = record { sums = rw r.base k.held.sums; place = rw r.base k.held.place; are = r.marks ∙ k.held.are; drained = k.held.drained };
    range = r.range;
    own = k.own;
    mode = subst (λ l. Moded c.deferred c.size (s_place st) l q) (sym e) r.mode;
    owes = λ f. omega (arith, k.owes f, r.worths f, ap (λ (m : ℕ). total f (when c.keeps_buffered (failures m g.behind))) r.base);
    tally = k.tally;
    room = λ a.
        let o = k.room a in
        record { lone = λ f. omega (arith, r.smaller.noted f, o.lone f, ap (λ (m : ℕ). total f (unseens m g.behind)) r.base); short = omega (arith, r.smaller.short, o.short); in_table = o.in_table; in_pipe = omega (arith, r.smaller.sizes, o.in_pipe) };
    trace = k.trace;
  }

  abbrev at_stage : Ghost X → Bool → Bool → List X → ℕ → ℕ → ℕ → Stage X
  at_stage g so bo rows place first turns = stage g.read_s g.read_b so bo [] g.gave turns (at g.passed place rows first g.ahead)

  -- more may follow a side than may follow one that is over
  safe_s : (s b : List X) (eb : Bool) (w : List Record) (m : ℕ) (t : path_state X) (es : Bool) → Safe (stage s b false eb [] w m t) → Safe (stage s b es eb [] w m t)
  safe_s s b eb w m t es h = λ s' b' fs fb. h s' b' (λ d. absurd (false≢true d)) fb

  safe_b : (s b : List X) (es : Bool) (w : List Record) (m : ℕ) (t : path_state X) (eb : Bool) → Safe (stage s b es false [] w m t) → Safe (stage s b es eb [] w m t)
  safe_b s b es w m t eb h = λ s' b' fs fb. h s' b' fs (λ d. absurd (false≢true d))

  fresh_s : (s b : List X) (eb : Bool) (w : List Record) (m : ℕ) (t : path_state X) (es : Bool) → Fresh (stage s b false eb [] w m t) → Fresh (stage s b es eb [] w m t)
  fresh_s s b eb w m t es h = λ s' b' fs fb. h s' b' (λ d. absurd (false≢true d)) fb

  fresh_b : (s b : List X) (es : Bool) (w : List Record) (m : ℕ) (t : path_state X) (eb : Bool) → Fresh (stage s b es false [] w m t) → Fresh (stage s b es eb [] w m t)
  fresh_b s b es w m t eb h = λ s' b' fs fb. h s' b' fs (λ d. absurd (false≢true d))

  core_skip_s : (g : Ghost X) (out : List Record) (l : List (List X)) (e : Closing F) (rows : List X) (place : ℕ) (en : Bool) (last : Option X) (bf : Buffered X F) (p : Pipe) (n : Counts) (v : V)
      → Core g out (streamed ([] ∷ l) e rows place en last) bf p n v false false → Core g out (streamed l e rows place en last) bf p n v false false
  core_skip_s g out l e rows place en last bf p n v k = record {
    streamed_side = record { whole = k.streamed_side.whole; intact = k.streamed_side.intact; sorted = k.streamed_side.sorted; last_is = k.streamed_side.last_is; size = k.streamed_side.size };
    buffered_side = k.buffered_side;
    ahead_is = k.ahead_is;
    good = safe_s g.read_s g.read_b (is_over (b_left bf) (b_close bf)) g.gave (n_turns n) (at g.passed place rows (b_first bf) g.ahead) (is_over l e) k.good;
    fresh = fresh_s g.read_s g.read_b (is_over (b_left bf) (b_close bf)) g.gave (n_turns n) (at g.passed place rows (b_first bf) g.ahead) (is_over l e) k.fresh;
    unmet = k.unmet;
    held = k.held;
    range = k.range;
    own = k.own;
    mode = k.mode;
    owes = k.owes;
    tally = k.tally;
    room = k.room;
    trace = λ s' b' fs fb. k.trace s' b' (λ d. absurd (false≢true d)) fb;
  }

  abbrev pub reads_s : Ghost X → List X → List X → Ghost X
  reads_s g r lost = record { read_s = g.read_s ++ r; lost_s = lost; read_b = g.read_b; lost_b = g.lost_b; passed = g.passed; ahead = g.ahead; gave = g.gave; behind = g.behind; here = g.here; group = g.group }

  taken_whole : (log read lost r rest : List X) → log ≡ read ++ (lost ++ (r ++ rest)) → lost ≡ [] → log ≡ (read ++ r) ++ ([] ++ rest)
  taken_whole log read lost r rest e z = e ∙ ap (λ (l : List X). read ++ (l ++ (r ++ rest))) z ∙ sym (append_assoc read r rest)

  core_read_s : (g : Ghost X) (out : List Record) (r : List X) (l : List (List X)) (e : Closing F) (place : ℕ) (en en' : Bool) (last : Option X) (j : ℕ) (bf : Buffered X F) (p : Pipe) (n : Counts) (v : V)
      → Core g out (streamed (r ∷ l) e [] place en last) bf p n v false false → disorder c.within last r j ≡ None → Core (reads_s g r []) out (streamed l e r place en' (last_of last r)) bf p n v false false
  core_read_s g out r l e place en en' last j bf p n v k d =
      let s = k.streamed_side in
      let o = checked c.within last g.read_s r j s.sorted s.last_is d in
      record {
        streamed_side = record {
          whole = taken_whole _ g.read_s g.lost_s r (rows_in l) s.whole (s.intact refl);
          intact = λ z. refl;
          sorted = o.0;
          last_is = o.1;
          size = omega (arith, s.size, length-append g.read_s r);
        };
        buffered_side = k.buffered_side;
        ahead_is = k.ahead_is;
        good = safe_s (g.read_s ++ r) g.read_b (is_over (b_left bf) (b_close bf)) g.gave (n_turns n) (at g.passed place r (b_first bf) g.ahead) (is_over l e) (rw (append-nil g.ahead) at (good_act c.within c.across (passes c) c.keeps_streamed c.keeps_buffered laws only_same (read_streamed r) (at_stage g false (is_over (b_left bf) (b_close bf)) [] place (b_first bf) (n_turns n)) refl k.good));
        fresh = fresh_s (g.read_s ++ r) g.read_b (is_over (b_left bf) (b_close bf)) g.gave (n_turns n) (at g.passed place r (b_first bf) g.ahead) (is_over l e) ((fresh_act c.within c.across (passes c) c.keeps_streamed c.keeps_buffered laws only_same (read_streamed r) (at_stage g false (is_over (b_left bf) (b_close bf)) [] place (b_first bf) (n_turns n)) refl k.good k.fresh));
        unmet = k.unmet;
        held = k.held;
        range = k.range;
        own = k.own;
        mode = k.mode;
        owes = k.owes;
        tally = k.tally;
        room = k.room;
        trace = λ s' b' fs fb. let q = k.trace (r ++ s') b' (λ d. absurd (false≢true d)) fb in record { rows_are = rw (append_assoc g.read_s r s') q.rows_are; runs_are = rw (append_assoc g.read_s r s') q.runs_are; stands = rw (append_assoc g.read_s r s') q.stands };
      }

  abbrev pub loses_s : Ghost X → List X → Ghost X
  loses_s g r = record { read_s = g.read_s; lost_s = r; read_b = g.read_b; lost_b = g.lost_b; passed = g.passed; ahead = g.ahead; gave = g.gave; behind = g.behind; here = g.here; group = g.group }

  core_fail_s : (g : Ghost X) (out : List Record) (r : List X) (l : List (List X)) (e : Closing F) (place : ℕ) (en en' : Bool) (last : Option X) (bf : Buffered X F) (p : Pipe) (n : Counts) (v : V)
      → Core g out (streamed (r ∷ l) e [] place en last) bf p n v false false → Core (loses_s g r) out (streamed l e [] place en' last) bf p n v true false
  core_fail_s g out r l e place en en' last bf p n v k =
      let s = k.streamed_side in
      record {
        streamed_side = record { whole = s.whole ∙ ap (λ (m : List X). g.read_s ++ (m ++ (r ++ rows_in l))) (s.intact refl); intact = λ z. absurd (true≢false z); sorted = s.sorted; last_is = s.last_is; size = s.size };
        buffered_side = k.buffered_side;
        ahead_is = k.ahead_is;
        good = k.good;
        fresh = k.fresh;
        unmet = k.unmet;
        held = k.held;
        range = k.range;
        own = k.own;
        mode = k.mode;
        owes = k.owes;
        tally = k.tally;
        room = k.room;
        trace = k.trace;
      }

  core_skip_b : (g : Ghost X) (out : List Record) (st : Streamed X F) (l : List (List X)) (e : Closing F) (sizes : List ℕ) (first : ℕ) (run beyond : List X) (en en' m m' : Bool) (last : Option X) (p : Pipe) (n : Counts) (v : V)
      → Core g out st (buffered ([] ∷ l) e sizes first run beyond en m last) p n v false false → Core g out st (buffered l e sizes first run beyond en' m' last) p n v false false
  core_skip_b g out st l e sizes first run beyond en en' m m' last p n v k = record {
    streamed_side = k.streamed_side;
    buffered_side = record { whole = k.buffered_side.whole; intact = k.buffered_side.intact; sorted = k.buffered_side.sorted; last_is = k.buffered_side.last_is; size = k.buffered_side.size };
    ahead_is = k.ahead_is;
    good = safe_b g.read_s g.read_b (is_over (s_left st) (s_close st)) g.gave (n_turns n) (at g.passed (s_place st) (s_rows st) first g.ahead) (is_over l e) k.good;
    fresh = fresh_b g.read_s g.read_b (is_over (s_left st) (s_close st)) g.gave (n_turns n) (at g.passed (s_place st) (s_rows st) first g.ahead) (is_over l e) k.fresh;
    unmet = k.unmet;
    held = k.held;
    range = k.range;
    own = k.own;
    mode = k.mode;
    owes = k.owes;
    tally = k.tally;
    room = k.room;
    trace = λ s' b' fs fb. k.trace s' b' fs (λ d. absurd (false≢true d));
  }

  abbrev pub reads_b : Ghost X → List X → Ghost X
  reads_b g r = record { read_s = g.read_s; lost_s = g.lost_s; read_b = g.read_b ++ r; lost_b = []; passed = g.passed; ahead = g.ahead ++ r; gave = g.gave; behind = g.behind; here = g.here; group = g.group }

  core_read_b : (g : Ghost X) (out : List Record) (st : Streamed X F) (x : X) (r : List X) (l : List (List X)) (e : Closing F) (sizes : List ℕ) (first : ℕ) (run : List X) (en en' m m' : Bool) (last : Option X) (j : ℕ) (p : Pipe) (n : Counts) (v : V)
      → Core g out st (buffered ((x ∷ r) ∷ l) e sizes first run [] en m last) p n v false false → disorder c.within last (x ∷ r) j ≡ None → total_size sizes + length (x ∷ r) ≤ c.buffered_table
      → Core (reads_b g (x ∷ r)) out st (buffered l e (sizes ++ length (x ∷ r) ∷ []) first run (x ∷ r) en' m' (last_of last (x ∷ r))) (held_more p (length (x ∷ r))) n v false false
  core_read_b g out st x r l e sizes first run en en' m m' last j (pipe base marks noted unfrozen entries due) n v k d tb =
      let s = k.buffered_side in
      let o = checked c.within last g.read_b (x ∷ r) j s.sorted s.last_is d in
      let shuns = k.fresh [] (x ∷ r) (λ z. refl) (λ z. absurd (false≢true z)) (rw append-nil k.streamed_side.sorted) o.0 in
      record {
        streamed_side = k.streamed_side;
        buffered_side = record {
          whole = taken_whole _ g.read_b g.lost_b (x ∷ r) (rows_in l) s.whole (s.intact refl);
          intact = λ z. refl;
          sorted = o.0;
          last_is = o.1;
          size = omega (arith, s.size, length-append g.read_b (x ∷ r), length-append g.ahead (x ∷ r));
        };
        ahead_is = ap (λ (a : List X). a ++ x ∷ r) (k.ahead_is ∙ append-nil run);
        good = safe_b g.read_s (g.read_b ++ x ∷ r) (is_over (s_left st) (s_close st)) g.gave (n_turns n) (at g.passed (s_place st) (s_rows st) first (g.ahead ++ x ∷ r)) (is_over l e) (rw (append-nil (s_rows st)) at (good_act c.within c.across (passes c) c.keeps_streamed c.keeps_buffered laws only_same (read_buffered (x ∷ r)) (at_stage g (is_over (s_left st) (s_close st)) false (s_rows st) (s_place st) first (n_turns n)) refl k.good));
        fresh = fresh_b g.read_s (g.read_b ++ x ∷ r) (is_over (s_left st) (s_close st)) g.gave (n_turns n) (at g.passed (s_place st) (s_rows st) first (g.ahead ++ x ∷ r)) (is_over l e) ((fresh_act c.within c.across (passes c) c.keeps_streamed c.keeps_buffered laws only_same (read_buffered (x ∷ r)) (at_stage g (is_over (s_left st) (s_close st)) false (s_rows st) (s_place st) first (n_turns n)) refl k.good k.fresh));
        unmet = unmet_fresh (passes c) g.passed (x ∷ r) shuns;
        held = record {
          sums = omega (arith, k.held.sums, sizes_push sizes (length (x ∷ r)), length-append g.ahead (x ∷ r));
          place = k.held.place;
          are = marking_longer base unfrozen marks (replicate (length (x ∷ r)) unseen) k.range ∙ ap (λ (q : List Mark). q ++ replicate (length (x ∷ r)) unseen) k.held.are ∙ regroup g.behind g.here (replicate (length (x ∷ r)) unseen);
          drained = λ z. absurd (some g.ahead z);
        };
        range = more_range base (length marks) (length (marks ++ replicate (length (x ∷ r)) unseen)) (omega (arith, length-append marks (replicate (length (x ∷ r)) unseen))) unfrozen k.range;
        own = k.own;
        mode = k.mode;
        owes = k.owes;
        tally = k.tally;
        room = λ a. let q = k.room a in record { lone = q.lone; short = q.short; in_table = omega (arith, sizes_push sizes (length (x ∷ r))); in_pipe = q.in_pipe };
        trace = λ s' b' fs fb. let q = k.trace s' ((x ∷ r) ++ b') fs (λ d. absurd (false≢true d)) in record { rows_are = rw (append_assoc g.read_b (x ∷ r) b') q.rows_are; runs_are = rw (append_assoc g.read_b (x ∷ r) b') q.runs_are; stands = rw (append_assoc g.read_b (x ∷ r) b', append_assoc g.ahead (x ∷ r) b') q.stands };
      }
    where
      some : (a : List X) → a ++ x ∷ r ≡ [] → ⊥
      some [] z = nil≢cons (sym z)
      some (w ∷ a) z = nil≢cons (sym z)

      regroup : (a b z : List Mark) → (a ++ (b ++ [])) ++ z ≡ a ++ (b ++ z)
      regroup a b z = rw append-nil (append_assoc a b z)

  core_fail_b : (g : Ghost X) (out : List Record) (st : Streamed X F) (r : List X) (l : List (List X)) (e : Closing F) (sizes : List ℕ) (first : ℕ) (run : List X) (en en' m m' : Bool) (last : Option X) (p : Pipe) (n : Counts) (v : V)
      → Core g out st (buffered (r ∷ l) e sizes first run [] en m last) p n v false false → Core (loses_b g r) out st (buffered l e sizes first run [] en' m' last) p n v false true
  core_fail_b g out st r l e sizes first run en en' m m' last p n v k =
      let s = k.buffered_side in
      record {
        streamed_side = k.streamed_side;
        buffered_side = record { whole = s.whole ∙ ap (λ (q : List X). g.read_b ++ (q ++ (r ++ rows_in l))) (s.intact refl); intact = λ z. absurd (true≢false z); sorted = s.sorted; last_is = s.last_is; size = s.size };
        ahead_is = k.ahead_is;
        good = k.good;
        fresh = k.fresh;
        unmet = k.unmet;
        held = k.held;
        range = k.range;
        own = k.own;
        mode = k.mode;
        owes = k.owes;
        tally = k.tally;
        room = k.room;
        trace = k.trace;
      }

  -- a row joins the run
  abbrev pub with_here : Ghost X → List Mark → Ghost X
  with_here g here = record { read_s = g.read_s; lost_s = g.lost_s; read_b = g.read_b; lost_b = g.lost_b; passed = g.passed; ahead = g.ahead; gave = g.gave; behind = g.behind; here = here; group = g.group }

  core_join : (g : Ghost X) (out : List Record) (st : Streamed X F) (l : List (List X)) (e : Closing F) (sizes : List ℕ) (first : ℕ) (run : List X) (z : X) (beyond : List X) (en en' m m' : Bool) (last : Option X) (p : Pipe) (n : Counts) (v : V)
      → Core g out st (buffered l e sizes first run (z ∷ beyond) en m last) p n v false false → Core (with_here g (g.here ++ unseen ∷ [])) out st (buffered l e sizes first (run ++ z ∷ []) beyond en' m' last) p n v false false
  core_join g out st l e sizes first run z beyond en en' m m' last p n v k = record {
    streamed_side = k.streamed_side;
    buffered_side = k.buffered_side;
    ahead_is = k.ahead_is ∙ sym (append_assoc run (z ∷ []) beyond);
    good = k.good;
    fresh = k.fresh;
    unmet = k.unmet.1;
    held = record { sums = k.held.sums; place = k.held.place; are = k.held.are ∙ ap (λ (q : List Mark). g.behind ++ q) (sym (append_assoc g.here (unseen ∷ []) (replicate (length beyond) unseen))); drained = k.held.drained };
    range = k.range;
    own = k.own;
    mode = k.mode;
    owes = k.owes;
    tally = k.tally;
    room = k.room;
    trace = k.trace;
  }

  -- an entry of the current row joins the pipe
  abbrev pub with_group : Ghost X → List Mark → List Entry → Ghost X
  with_group g here group = record { read_s = g.read_s; lost_s = g.lost_s; read_b = g.read_b; lost_b = g.lost_b; passed = g.passed; ahead = g.ahead; gave = g.gave; behind = g.behind; here = here; group = group }

  core_push : (g : Ghost X) (out : List Record) (st : Streamed X F) (bf : Buffered X F) (p q : Pipe) (n : Counts) (v : V) (en : Entry) (here : List Mark) → Core g out st bf p n v false false → Own (s_place st) en → Pushed c.deferred c.size (s_place st) g.group en p q
      → marking (base_of p) (en ∷ []) (marks_of p) ≡ g.behind ++ (here ++ replicate (length (b_beyond bf)) unseen) → Grown c.size p q → (Ample c → size_of p + 1 < c.size + c.buffered_table) → Core (with_group g here (g.group ++ en ∷ [])) out st bf q n v false false
  core_push g out st bf p q n v en here k o r e gr lo = record {
    streamed_side = k.streamed_side;
    buffered_side = k.buffered_side;
    ahead_is = k.ahead_is;
    good = k.good;
    fresh = k.fresh;
    unmet = k.unmet;
    held = record { sums = rw r.base k.held.sums; place = rw r.base k.held.place; are = r.marks ∙ e; drained = k.held.drained };
    range = r.range;
    own = All-push _ g.group en k.own o;
    mode = r.mode;
    owes = λ f. omega (arith, k.owes f, r.worths f, ap (λ (m : ℕ). total f (when c.keeps_buffered (failures m g.behind))) r.base);
    tally = k.tally;
    room = λ a.
        let w = k.room a in
        record { lone = λ f. omega (arith, gr.noted f, w.lone f, ap (λ (m : ℕ). total f (unseens m g.behind)) r.base); short = gr.short a.0; in_table = w.in_table; in_pipe = omega (arith, gr.sizes, lo a) };
    trace = k.trace;
  }

  -- the row is passed
  abbrev pub passed_row : Ghost X → X → List Record → Ghost X
  passed_row g x given = record { read_s = g.read_s; lost_s = g.lost_s; read_b = g.read_b; lost_b = g.lost_b; passed = g.passed ++ x ∷ []; ahead = g.ahead; gave = g.gave ++ given; behind = g.behind; here = g.here; group = [] }

  abbrev pub row_gives : Ghost X → ℕ → X → List X → ℕ → List Record
  row_gives g place x rows first = (pass_row c.within c.across (passes c) c.keeps_streamed c.keeps_buffered g.passed place x rows first g.ahead).gives

  core_row : (g : Ghost X) (out : List Record) (l : List (List X)) (e : Closing F) (x : X) (rows : List X) (place : ℕ) (en : Bool) (last : Option X) (bf : Buffered X F) (p : Pipe) (t nr nu h : ℕ) (v : V)
      → Core g out (streamed l e (x ∷ rows) place en last) bf p (counts t nr nu h) v false false → RowTurn g place (b_first bf) x rows (is_over l e) (is_over (b_left bf) (b_close bf))
      → ((f : Record → ℕ) → worth f c.deferred g.group ≡ total f (row_gives g place x rows (b_first bf))) → Unmet (passes c) (g.passed ++ x ∷ []) (b_beyond bf)
      → Core (passed_row g x (row_gives g place x rows (b_first bf))) out (streamed l e rows (suc place) en last) bf p (counts (t + 1) (nr + 1) nu h) v false false
  core_row g out l e x rows place en last bf p t nr nu h v k r w u =
      let s = k.streamed_side in
      record {
        streamed_side = record { whole = s.whole; intact = s.intact; sorted = s.sorted; last_is = s.last_is; size = omega (arith, s.size) };
        buffered_side = k.buffered_side;
        ahead_is = k.ahead_is;
        good = subst (λ q. Safe (stage g.read_s g.read_b (is_over l e) (is_over (b_left bf) (b_close bf)) [] (g.gave ++ q.gives) (t + one_turn q.passed) q.next)) r.is_row
            (good_act c.within c.across (passes c) c.keeps_streamed c.keeps_buffered laws only_same take_turn (at_stage g (is_over l e) (is_over (b_left bf) (b_close bf)) (x ∷ rows) place (b_first bf) t) r.decides k.good);
        fresh = subst (λ q. Fresh (stage g.read_s g.read_b (is_over l e) (is_over (b_left bf) (b_close bf)) [] (g.gave ++ q.gives) (t + one_turn q.passed) q.next)) r.is_row
            (fresh_act c.within c.across (passes c) c.keeps_streamed c.keeps_buffered laws only_same take_turn (at_stage g (is_over l e) (is_over (b_left bf) (b_close bf)) (x ∷ rows) place (b_first bf) t) r.decides k.good k.fresh);
        unmet = u;
        held = k.held;
        range = k.range;
        own = tt;
        mode = moded_passed c.deferred c.size place g.group k.own p k.mode;
        owes = λ f. omega (arith, k.owes f, w f, total_append f g.gave (row_gives g place x rows (b_first bf)), worth_none f c.deferred);
        tally = record { rows_are = omega (arith, k.tally.rows_are); turns_are = omega (arith, k.tally.turns_are); handed_are = k.tally.handed_are; led = k.tally.led };
        room = k.room;
        trace = λ s' b' fs fb.
            let q = trace_step (g.read_s ++ s') (g.read_b ++ b') s' b' t nr nu (at g.passed place (x ∷ rows) (b_first bf) g.ahead) _ (is_over l e) (is_over (b_left bf) (b_close bf)) fs fb r.decides r.is_row (k.trace s' b' fs fb) in
            record { rows_are = q.rows_are; runs_are = omega (arith, q.runs_are); stands = q.stands };
      }

  -- the run is passed
  abbrev pub passed_run : Ghost X → List X → List Record → List Mark → Ghost X
  passed_run g beyond given behind = record { read_s = g.read_s; lost_s = g.lost_s; read_b = g.read_b; lost_b = g.lost_b; passed = g.passed; ahead = beyond; gave = g.gave ++ given; behind = behind; here = []; group = [] }

  abbrev pub run_gives : Ghost X → ℕ → List X → List Record
  run_gives g first run = when c.keeps_buffered (lone_buffered (passes c) g.passed first run)

  pub record RunTurn (g : Ghost X) (place first : ℕ) (rows run beyond : List X) (s_over b_over : Bool) : Type 0 where
    pub decides : decided c.within c.across s_over b_over (at g.passed place rows first g.ahead) ≡ true
    pub is_run : turn_at (at g.passed place rows first g.ahead) ≡ record { passed = Rattle.merge.specs.Path.run; gives = run_gives g first run; next = at g.passed place rows (first + length run) beyond }

  core_run : (g : Ghost X) (out : List Record) (st : Streamed X F) (l : List (List X)) (e : Closing F) (sizes : List ℕ) (first : ℕ) (run beyond : List X) (en m : Bool) (last : Option X) (p : Pipe) (t nr nu h : ℕ) (v : V)
      → Core g out st (buffered l e sizes first run beyond en m last) p (counts t nr nu h) v false false → RunTurn g (s_place st) first (s_rows st) run beyond (over false (s_left st) (s_close st)) (is_over l e) → Rest g run m → is_full c.deferred c.size p ≡ false
      → Parted c.deferred c.size (s_place st) c.keeps_buffered ((first + length run) - base_of p) sizes (note (when (c.keeps_buffered && not m) (places first (length run))) p) (g.behind ++ g.here) (replicate (length beyond) unseen)
      (part c.deferred c.keeps_buffered ((first + length run) - base_of p) sizes (note (when (c.keeps_buffered && not m) (places first (length run))) p))
  core_run g out st l e sizes first run beyond en m last (pipe base marks noted unfrozen entries due) t nr nu h v k r s f =
      parted c.deferred c.size (s_place st) c.keeps_buffered ((first + length run) - base) sizes (note (when (c.keeps_buffered && not m) (places first (length run))) (pipe base marks noted unfrozen entries due)) (g.behind ++ g.here) (replicate (length beyond) unseen)
      (k.held.are ∙ sym (append_assoc g.behind g.here (replicate (length beyond) unseen)))
      (omega (arith, length-append g.behind g.here, k.held.place, ap length s.here_is, length_standing (passes c) m g.passed run))
      (noted_mode c.deferred c.size (s_place st) (when (c.keeps_buffered && not m) (places first (length run))) (pipe base marks noted unfrozen entries due) f (mode_none g out st (buffered l e sizes first run beyond en m last) (pipe base marks noted unfrozen entries due) (counts t nr nu h) v false false k s.group_none))
      k.range

  core_after : (g : Ghost X) (out : List Record) (st : Streamed X F) (l : List (List X)) (e : Closing F) (sizes : List ℕ) (first : ℕ) (run beyond : List X) (en m en' m' : Bool) (last : Option X) (p : Pipe) (t nr nu h : ℕ) (v : V) (q : Pipe × List ℕ)
      → Core g out st (buffered l e sizes first run beyond en m last) p (counts t nr nu h) v false false → RunTurn g (s_place st) first (s_rows st) run beyond (over false (s_left st) (s_close st)) (is_over l e) → Rest g run m
      → (w : Parted c.deferred c.size (s_place st) c.keeps_buffered ((first + length run) - base_of p) sizes (note (when (c.keeps_buffered && not m) (places first (length run))) p) (g.behind ++ g.here) (replicate (length beyond) unseen) q) → (Ample c → size_of p < c.size + length (noted_of p))
      → Core (passed_run g beyond (run_gives g first run) w.behind) out st (buffered l e q.1 (first + length run) [] beyond en' m' last) q.0 (counts (t + 1) nr (nu + 1) h) v false false
  core_after g out st l e sizes first run beyond en m en' m' last (pipe base marks noted unfrozen entries due) t nr nu h v q k r s w lo =
      let b = k.buffered_side in
      let long : length g.ahead ≡ length run + length beyond = ap length k.ahead_is ∙ length-append run beyond in
      let small : base ≤ first = omega (arith, k.held.place) in
      record {
        streamed_side = k.streamed_side;
        buffered_side = record { whole = b.whole; intact = b.intact; sorted = b.sorted; last_is = b.last_is; size = omega (arith, b.size, long) };
        ahead_is = refl;
        good = subst (λ z. Safe (stage g.read_s g.read_b (over false (s_left st) (s_close st)) (is_over l e) [] (g.gave ++ z.gives) (t + one_turn z.passed) z.next)) r.is_run
            (good_act c.within c.across (passes c) c.keeps_streamed c.keeps_buffered laws only_same take_turn (at_stage g (over false (s_left st) (s_close st)) (is_over l e) (s_rows st) (s_place st) first t) r.decides k.good);
        fresh = subst (λ z. Fresh (stage g.read_s g.read_b (over false (s_left st) (s_close st)) (is_over l e) [] (g.gave ++ z.gives) (t + one_turn z.passed) z.next)) r.is_run
            (fresh_act c.within c.across (passes c) c.keeps_streamed c.keeps_buffered laws only_same take_turn (at_stage g (over false (s_left st) (s_close st)) (is_over l e) (s_rows st) (s_place st) first t) r.decides k.good k.fresh);
        unmet = k.unmet;
        held = record {
          sums = omega (arith, w.sums, k.held.sums, long);
          place = omega (arith, w.base);
          are = w.marks;
          drained = λ z. w.empties (omega (arith, k.held.sums, k.held.place, long, ap length z));
        };
        range = w.range;
        own = tt;
        mode = w.mode;
        owes = λ f.
            omega (
              arith,
              k.owes f,
              w.worths f,
              noted_worth f c.deferred (when (c.keeps_buffered && not m) (places first (length run))) (pipe base marks noted unfrozen entries due),
              failures_total f c.keeps_buffered base g.behind g.here,
              ap (λ (z : ℕ). total f (when c.keeps_buffered (failures z g.here))) k.held.place,
              ap (λ (z : List Mark). total f (when c.keeps_buffered (failures first z))) s.here_is,
              run_worth (passes c) f c.keeps_buffered m g.passed first run s.unmet_run,
              total_append f g.gave (run_gives g first run),
              ap (worth f c.deferred) s.group_none,
              worth_none f c.deferred,
            );
        tally = record { rows_are = k.tally.rows_are; turns_are = omega (arith, k.tally.turns_are); handed_are = k.tally.handed_are; led = k.tally.led };
        room = λ a.
            let o = k.room a in
            let more = when (c.keeps_buffered && not m) (places first (length run)) in
            let lone' : (f : ℕ → ℕ) → total f (noted ++ more) ≤ total f (unseens base (g.behind ++ g.here)) = λ f.
            omega (arith, o.lone f, total_append f noted more, unseens_total f base g.behind g.here, ap (λ (z : ℕ). total f (unseens z g.here)) k.held.place, ap (λ (z : List Mark). total f (unseens first z)) s.here_is, noted_unseen (passes c) f c.keeps_buffered m g.passed first run) in
            record {
              lone = w.noting lone';
              short = omega (arith, w.short, o.short);
              in_table = omega (arith, w.fewer, o.in_table);
              in_pipe =
                  omega (
                    arith,
                    w.lengths,
                    lo a,
                    length-append noted more,
                    lone' (λ j. 1),
                    length_total (noted ++ more),
                    unseen_few base (g.behind ++ g.here),
                    length-append g.behind g.here,
                    ap length s.here_is,
                    length_standing (passes c) m g.passed run,
                    k.held.sums,
                    k.held.place,
                    long,
                    o.in_table,
                  );
            };
        trace = λ s' b' fs fb.
            let z = trace_step (g.read_s ++ s') (g.read_b ++ b') s' b' t nr nu (at g.passed (s_place st) (s_rows st) first g.ahead) _ (over false (s_left st) (s_close st)) (is_over l e) fs fb r.decides r.is_run (k.trace s' b' fs fb) in
            record { rows_are = omega (arith, z.rows_are); runs_are = z.runs_are; stands = z.stands };
      }

  -- a record is handed over
  core_give : (g : Ghost X) (out : List Record) (st : Streamed X F) (bf : Buffered X F) (base : ℕ) (marks : List Mark) (noted : List ℕ) (unfrozen entries : List Entry) (r : Record) (due : List Record) (t nr nu h : ℕ) (v : V) (df db : Bool)
      → Core g out st bf (pipe base marks noted unfrozen entries (r ∷ due)) (counts t nr nu h) v df db → c.fits v r ≡ true → Core g (out ++ r ∷ []) st bf (pipe base marks noted unfrozen entries due) (counts t nr nu (min (h + 1) most_handed)) (c.after v r) df db
  core_give g out st bf base marks noted unfrozen entries r due t nr nu h v df db k e = record {
    streamed_side = k.streamed_side;
    buffered_side = k.buffered_side;
    ahead_is = k.ahead_is;
    good = k.good;
    fresh = k.fresh;
    unmet = k.unmet;
    held = k.held;
    range = k.range;
    own = k.own;
    mode = k.mode;
    owes = λ f. omega (arith, k.owes f, total_append f out (r ∷ []));
    tally = record { rows_are = k.tally.rows_are; turns_are = k.tally.turns_are; handed_are = omega (arith, k.tally.handed_are, length-append out (r ∷ [])); led = led_push c.fits c.after v₀ out v r k.tally.led e };
    room = λ a. let o = k.room a in record { lone = o.lone; short = o.short; in_table = o.in_table; in_pipe = omega (arith, o.in_pipe) };
    trace = k.trace;
  }

  -- ---- the small steps

  abbrev pub IsDone : State X F V → Type 0
  IsDone (state st bf (pipe base marks noted unfrozen entries due) n v done) = due ≡ []
  IsDone (state st bf (pipe base marks noted unfrozen entries due) n v (fetching f)) = ⊥
  IsDone (state st bf (pipe base marks noted unfrozen entries due) n v (seeding f)) = ⊥
  IsDone (state st bf (pipe base marks noted unfrozen entries due) n v (extending f)) = ⊥
  IsDone (state st bf (pipe base marks noted unfrozen entries due) n v (closing f)) = ⊥
  IsDone (state st bf (pipe base marks noted unfrozen entries due) n v turning) = ⊥
  IsDone (state st bf (pipe base marks noted unfrozen entries due) n v passing) = ⊥
  IsDone (state st bf (pipe base marks noted unfrozen entries due) n v (pairing todo j)) = ⊥
  IsDone (state st bf (pipe base marks noted unfrozen entries due) n v (stopped f)) = ⊥

  abbrev pub Kept : List Record → ℕ → ℕ → Outcome X F V → Type 0
  Kept out mores cap (going s) = Inv out mores cap s
  Kept out mores cap (gives r s) = Inv (out ++ r ∷ []) mores cap s
  Kept out mores cap (answered a s) = Inv out (mores + one_more a) (turns_of s + 1) s × (turns_of s ≤ cap) × (a ≡ finished → IsDone s)

  module _ (out : List Record) (mores cap : ℕ) where
    kept_cond : (t : Bool) (a b : Outcome X F V) → (t ≡ true → Kept out mores cap a) → (t ≡ false → Kept out mores cap b) → Kept out mores cap (cond t a b)
    kept_cond t a b h k = cond_both t a b (Kept out mores cap) h k

    kept_stop : (f : Fault F) (g : Ghost X) (st : Streamed X F) (bf : Buffered X F) (p : Pipe) (n : Counts) (v : V) (a b : ℕ)
        → Core g out st bf p n v (streamed_failed {X = X} (stopped f)) (buffered_failed {X = X} (stopped f)) → Budget mores cap (n_turns n) a b → g.group ≡ [] → Kept out mores cap (stops c f st bf p n v)
    kept_stop f g st bf p (counts t nr nu h) v a b k u z = (
      record { ghosts = g; core = k; budget = record { under = omega arith; told = omega (arith, u.told) }; now = z },
      omega (arith, u.under),
      λ e. cc,
    )

    -- ---- streamed load

    fetched : (first : Bool) (g : Ghost X) (st : Streamed X F) (bf : Buffered X F) (p : Pipe) (n : Counts) (v : V) → Core g out st bf p n v false false → Budget mores cap (n_turns n) (may_count first) (has_counted first)
        → Opening first bf (is_over (b_left bf) (b_close bf)) → Rest g (b_run bf) (b_matched bf) → ReadyS (s_rows st) (s_ended st) (is_over (s_left st) (s_close st)) → Kept out mores cap (going (state st bf p n v (after_fetch c first)))
    fetched true g st bf p n v k u o r d = record { ghosts = g; core = k; budget = u; now = (d, o.0, r.group_none, r.here_is ∙ ap (standing (passes c) (b_matched bf) g.passed) o.0) }
    fetched false g st bf p n v k u o r d = record { ghosts = g; core = k; budget = u; now = (d, o, r) }

    fetch_checks : (first : Bool) (g : Ghost X) (x : X) (r : List X) (l : List (List X)) (e : Closing F) (place : ℕ) (en : Bool) (last : Option X) (bf : Buffered X F) (p : Pipe) (n : Counts) (v : V) → Core g out (streamed ((x ∷ r) ∷ l) e [] place en last) bf p n v false false
        → Budget mores cap (n_turns n) (may_count first) (has_counted first) → Opening first bf (is_over (b_left bf) (b_close bf)) → Rest g (b_run bf) (b_matched bf)
        → (o : Option ℕ) → disorder c.within last (x ∷ r) place ≡ o → Kept out mores cap (fetch_checked c o first l e (x ∷ r) place last bf p n v)
    fetch_checks first g x r l e place en last bf p n v k u o d None q =
        fetched first (reads_s g (x ∷ r) []) (streamed l e (x ∷ r) place false (last_of last (x ∷ r))) bf p n v (core_read_s g out (x ∷ r) l e place en false last place bf p n v k q) u o d tt
    fetch_checks first g x r l e place en last bf p n v k u o d (Some j) q =
        kept_stop (disordered on_streamed j) (loses_s g (x ∷ r)) (streamed l e [] place false last) bf p n v (may_count first) (has_counted first) (core_fail_s g out (x ∷ r) l e place en false last bf p n v k) u d.group_none

    fetch_takes : (first : Bool) (g : Ghost X) (x : X) (r : List X) (l : List (List X)) (e : Closing F) (place : ℕ) (en : Bool) (last : Option X) (bf : Buffered X F) (p : Pipe) (n : Counts) (v : V) → Core g out (streamed ((x ∷ r) ∷ l) e [] place en last) bf p n v false false
        → Budget mores cap (n_turns n) (may_count first) (has_counted first) → Opening first bf (is_over (b_left bf) (b_close bf)) → Rest g (b_run bf) (b_matched bf) → Kept out mores cap (fetch_taken c first (x ∷ r) l e place last bf p n v)
    fetch_takes first g x r l e place en last bf (pipe base marks noted [] entries due) n v k u o d = fetch_checks first g x r l e place en last bf (pipe base marks noted [] entries due) n v k u o d (disorder c.within last (x ∷ r) place) refl
    fetch_takes first g x r l e place en last bf (pipe base marks noted (w ∷ unfrozen) entries due) n v k u o d =
        let st = streamed ((x ∷ r) ∷ l) e [] place en last in
        let p = pipe base marks noted (w ∷ unfrozen) entries due in
        record {
          ghosts = g;
          core = core_frozen g out st bf p (freeze c.deferred p) n v false false k d.group_none (frozen c.deferred c.size place p (mode_none g out st bf p n v false false k d.group_none));
          budget = u;
          now = (o, d);
        }

    kept_fetch : (first : Bool) (g : Ghost X) (l : List (List X)) (e : Closing F) (place : ℕ) (en : Bool) (last : Option X) (bf : Buffered X F) (p : Pipe) (n : Counts) (v : V) → Core g out (streamed l e [] place en last) bf p n v false false
        → Budget mores cap (n_turns n) (may_count first) (has_counted first) → Opening first bf (is_over (b_left bf) (b_close bf)) → Rest g (b_run bf) (b_matched bf) → Kept out mores cap (fetch c first l e place last bf p n v)
    kept_fetch first g [] (Ok end) place en last bf p n v k u o d = fetched first g (streamed [] (Ok end) [] place true last) bf p n v k u o d refl
    kept_fetch first g [] (Err f) place en last bf p n v k u o d = kept_stop (from_source on_streamed f) g (streamed [] (Err f) [] place false last) bf p n v (may_count first) (has_counted first) k u d.group_none
    kept_fetch first g ([] ∷ l) e place en last bf p n v k u o d = record { ghosts = g; core = core_skip_s g out l e [] place en last bf p n v k; budget = u; now = (o, d) }
    kept_fetch first g ((x ∷ r) ∷ l) e place en last bf p n v k u o d =
        kept_cond (leb (place + length (x ∷ r)) most_rows) _ _
        (λ _. kept_cond (leb (length (x ∷ r)) c.streamed_table) _ _
        (λ _. fetch_takes first g x r l e place en last bf p n v k u o d)
        (λ _. kept_stop (oversized on_streamed place) g (streamed ((x ∷ r) ∷ l) e [] place false last) bf p n v (may_count first) (has_counted first) k u d.group_none))
        (λ _. kept_stop (overlong on_streamed place) g (streamed ((x ∷ r) ∷ l) e [] place false last) bf p n v (may_count first) (has_counted first) k u d.group_none)

    -- ---- buffered load

    -- going on with what was read
    abbrev Reading : Ghost X → Streamed X F → ℕ → List X → Bool → Counts → V → Phase X F → Type 0
    Reading g st first run m n v ph = (g' : Ghost X) (l : List (List X)) (e : Closing F) (sizes : List ℕ) (beyond : List X) (last : Option X) (p : Pipe) → g'.group ≡ g.group → g'.here ≡ g.here → g'.passed ≡ g.passed
        → Core g' out st (buffered l e sizes first run beyond false m last) p n v false false → Kept out mores cap (going (state st (buffered l e sizes first run beyond false m last) p n v ph))

    load_checks : (ph : Phase X F) (g : Ghost X) (st : Streamed X F) (x : X) (r : List X) (l : List (List X)) (e : Closing F) (sizes : List ℕ) (first : ℕ) (run : List X) (en m : Bool) (last : Option X) (p : Pipe) (n : Counts) (v : V) (a b : ℕ)
        → Core g out st (buffered ((x ∷ r) ∷ l) e sizes first run [] en m last) p n v false false → Budget mores cap (n_turns n) a b → g.group ≡ [] → total_size sizes + length (x ∷ r) ≤ c.buffered_table → Reading g st first run m n v ph
        → (o : Option ℕ) → disorder c.within last (x ∷ r) (first + length run) ≡ o → Kept out mores cap (load_checked c o ph st l e (x ∷ r) sizes first run m last p n v)
    load_checks ph g st x r l e sizes first run en m last p n v a b k u gn tb next None q =
        next (reads_b g (x ∷ r)) l e (sizes ++ length (x ∷ r) ∷ []) (x ∷ r) (last_of last (x ∷ r)) (held_more p (length (x ∷ r))) refl refl refl (core_read_b g out st x r l e sizes first run en false m m last (first + length run) p n v k q tb)
    load_checks ph g st x r l e sizes first run en m last p n v a b k u gn tb next (Some j) q =
        kept_stop (disordered on_buffered j) (loses_b g (x ∷ r)) st (buffered l e sizes first run [] false m last) p n v a b (core_fail_b g out st (x ∷ r) l e sizes first run en false m m last p n v k) u gn

    kept_load : (at_end : Outcome X F V) (ph : Phase X F) (g : Ghost X) (st : Streamed X F) (l : List (List X)) (e : Closing F) (sizes : List ℕ) (first : ℕ) (run : List X) (en m : Bool) (last : Option X) (p : Pipe) (n : Counts) (v : V) (a b : ℕ)
        → Core g out st (buffered l e sizes first run [] en m last) p n v false false → Budget mores cap (n_turns n) a b → g.group ≡ [] → (Core g out st (buffered [] (Ok tt) sizes first run [] en m last) p n v false false → Kept out mores cap at_end) → Reading g st first run m n v ph
        → Kept out mores cap (load c at_end ph st l e sizes first run m last p n v)
    kept_load at_end ph g st [] (Ok end) sizes first run en m last p n v a b k u gn over next = over k
    kept_load at_end ph g st [] (Err f) sizes first run en m last p n v a b k u gn end next = kept_stop (from_source on_buffered f) g st (buffered [] (Err f) sizes first run [] false m last) p n v a b k u gn
    kept_load at_end ph g st ([] ∷ l) e sizes first run en m last p n v a b k u gn end next = next g l e sizes [] last p refl refl refl (core_skip_b g out st l e sizes first run [] en false m m last p n v k)
    kept_load at_end ph g st ((x ∷ r) ∷ l) e sizes first run en m last p n v a b k u gn end next =
        let bf = buffered ((x ∷ r) ∷ l) e sizes first run [] false m last in
        kept_cond (leb ((first + length run) + length (x ∷ r)) most_rows) _ _
        (λ _. kept_cond (leb (suc (length sizes)) most_batches) _ _
        (λ _. kept_cond (leb (total_size sizes + length (x ∷ r)) c.buffered_table) _ _
        (λ tb. load_checks ph g st x r l e sizes first run en m last p n v a b k u gn (leb-true _ _ tb) next (disorder c.within last (x ∷ r) (first + length run)) refl)
        (λ _. kept_stop (oversized on_buffered (first + length run)) g st bf p n v a b k u gn))
        (λ _. kept_stop (crowded (first + length run)) g st bf p n v a b k u gn))
        (λ _. kept_stop (overlong on_buffered (first + length run)) g st bf p n v a b k u gn)

    kept_seed : (f : Bool) (g : Ghost X) (st : Streamed X F) (l : List (List X)) (e : Closing F) (sizes : List ℕ) (first : ℕ) (beyond : List X) (en m : Bool) (last : Option X) (p : Pipe) (n : Counts) (v : V)
        → Core g out st (buffered l e sizes first [] beyond en m last) p n v false false → Budget mores cap (n_turns n) (may_count f) (has_counted f) → ReadyS (s_rows st) (s_ended st) (is_over (s_left st) (s_close st)) → g.group ≡ [] → g.here ≡ []
        → Kept out mores cap (seed c f st (buffered l e sizes first [] beyond en m last) p n v)
    kept_seed f g st l e sizes first (z ∷ beyond) en m last p n v k u d a b = record {
      ghosts = with_here g (g.here ++ unseen ∷ []);
      core = core_join g out st l e sizes first [] z beyond en false m false last p n v k;
      budget = u;
      now = (d, tt, refl, refl, record { group_none = a; here_is = ap (λ (q : List Mark). q ++ unseen ∷ []) b; unmet_run = λ _. (k.unmet.0, tt) });
    }
    kept_seed f g st l e sizes first [] en m last p n v k u d a b =
        kept_load _ (seeding f) g st l e sizes first [] en false last p n v (may_count f) (has_counted f) k u a
        (λ q. record { ghosts = g; core = q; budget = u; now = (d, refl, record { group_none = a; here_is = b; unmet_run = λ _. tt }) })
        (λ g' l' e' sizes' beyond' last' p' x y z q. record { ghosts = g'; core = q; budget = u; now = (d, refl, x ∙ a, y ∙ b) })

    kept_extend : (f : Bool) (g : Ghost X) (st : Streamed X F) (l : List (List X)) (e : Closing F) (sizes : List ℕ) (first : ℕ) (y : X) (run beyond : List X) (last : Option X) (p : Pipe) (n : Counts) (v : V)
        → Core g out st (buffered l e sizes first (y ∷ run) beyond false false last) p n v false false → Budget mores cap (n_turns n) (may_count f) (has_counted f) → ReadyS (s_rows st) (s_ended st) (is_over (s_left st) (s_close st))
        → Level c.within c.across laws y run → Rest g (y ∷ run) false → Kept out mores cap (extend c f st (buffered l e sizes first (y ∷ run) beyond false false last) p n v)
    kept_extend f g st l e sizes first y run (z ∷ beyond) last p n v k u d h r =
        kept_cond (is_same (c.within y z)) _ _
        (λ s. record {
          ghosts = with_here g (g.here ++ unseen ∷ []);
          core = core_join g out st l e sizes first (y ∷ run) z beyond false false false false last p n v k;
          budget = u;
          now = (
            d,
            All-push _ run z h s,
            refl,
            refl,
            record {
              group_none = r.group_none;
              here_is = ap (λ (q : List Mark). q ++ unseen ∷ []) r.here_is ∙ sym (standing_append (passes c) false g.passed (y ∷ run) (z ∷ []));
              unmet_run = λ _. All-push _ (y ∷ run) z (r.unmet_run refl) k.unmet.0;
            },
          );
        })
        (λ s. record { ghosts = g; core = k; budget = u; now = (d, (h, s), r) })
    kept_extend f g st l e sizes first y run [] last p n v k u d h r =
        kept_load _ (extending f) g st l e sizes first (y ∷ run) false false last p n v (may_count f) (has_counted f) k u r.group_none
        (λ q. record { ghosts = g; core = q; budget = u; now = (d, (h, refl), r) })
        (λ g' l' e' sizes' beyond' last' p' x y' z q. record {
          ghosts = g';
          core = q;
          budget = u;
          now = (d, h, refl, refl, record { group_none = x ∙ r.group_none; here_is = y' ∙ r.here_is ∙ ap (λ (w : List X). standing (passes c) false w (y ∷ run)) (sym z); unmet_run = λ t. subst (λ w. Unmet (passes c) w (y ∷ run)) (sym z) (r.unmet_run t) });
        })

    -- ---- end of a turn

    kept_on : (f : Bool) (g : Ghost X) (st : Streamed X F) (bf : Buffered X F) (p : Pipe) (n : Counts) (v : V) → Core g out st bf p n v false false → Budget mores cap (n_turns n) (may_count f) (has_counted f)
        → Turning g st bf (is_over (s_left st) (s_close st)) (is_over (b_left bf) (b_close bf)) → (s_ended st && b_ended bf) ≡ false → Kept out mores cap (go_on c f st bf p n v)
    kept_on true g st bf p n v k u d h = record { ghosts = g; core = k; budget = u; now = (d, h) }
    kept_on false g st bf p (counts t nr nu hd) v k u d h = (
      record { ghosts = g; core = k; budget = record { under = omega arith; told = omega (arith, u.told) }; now = (d, h) },
      omega (arith, u.under),
      λ q. cc,
    )

    kept_end : (f : Bool) (g : Ghost X) (l : List (List X)) (e : Closing F) (place : ℕ) (last : Option X) (bl' : List (List X)) (be : Closing F) (sizes : List ℕ) (first : ℕ) (m : Bool) (lastb : Option X) (p : Pipe) (n : Counts) (v : V)
        → Core g out (streamed l e [] place true last) (buffered bl' be sizes first [] [] true m lastb) p n v false false → Budget mores cap (n_turns n) (may_count f) (has_counted f)
        → Turning g (streamed l e [] place true last) (buffered bl' be sizes first [] [] true m lastb) (is_over l e) (is_over bl' be) → Kept out mores cap (going (state (streamed l e [] place true last) (buffered bl' be sizes first [] [] true m lastb) (flush c.deferred p) n v done))
    kept_end f g l e place last bl' be sizes first m lastb p n v k u d =
        let st = streamed l e [] place true last in
        let bf = buffered bl' be sizes first [] [] true m lastb in
        let fl = flushed c.deferred c.size place p (mode_none g out st bf p n v false false k d.2.group_none) in
        record {
          ghosts = g;
          core = core_frozen g out st bf p (flush c.deferred p) n v false false k d.2.group_none fl.0;
          budget = record { under = omega (arith, u.under); told = omega (arith, u.told) };
          now = (record { s_over_is = d.0; b_over_is = d.1; rows_none = refl; ahead_none = k.ahead_is; group_none = d.2.group_none }, fl.1);
        }

    kept_close : (f : Bool) (g : Ghost X) (st : Streamed X F) (bf : Buffered X F) (p : Pipe) (n : Counts) (v : V) → Core g out st bf p n v false false → Budget mores cap (n_turns n) (may_count f) (has_counted f)
        → Turning g st bf (is_over (s_left st) (s_close st)) (is_over (b_left bf) (b_close bf)) → Kept out mores cap (close c f st bf p n v)
    kept_close f g (streamed l e rows place false last) (buffered bl' be sizes first run beyond b_en m lastb) p n v k u d = kept_on f g (streamed l e rows place false last) (buffered bl' be sizes first run beyond b_en m lastb) p n v k u d refl
    kept_close f g (streamed l e rows place true last) (buffered bl' be sizes first run beyond false m lastb) p n v k u d = kept_on f g (streamed l e rows place true last) (buffered bl' be sizes first run beyond false m lastb) p n v k u d refl
    kept_close f g (streamed l e [] place true last) (buffered bl' be sizes first [] [] true m lastb) p n v k u d = kept_end f g l e place last bl' be sizes first m lastb p n v k u d
    kept_close f g (streamed l e [] place true last) (buffered bl' be sizes first [] (_ ∷ _) true m lastb) p n v k u d = absurd d.1
    kept_close f g (streamed l e [] place true last) (buffered bl' be sizes first (_ ∷ _) [] true m lastb) p n v k u d = absurd d.1
    kept_close f g (streamed l e [] place true last) (buffered bl' be sizes first (_ ∷ _) (_ ∷ _) true m lastb) p n v k u d = absurd d.1
    kept_close f g (streamed l e (_ ∷ _) place true last) (buffered bl' be sizes first run beyond true m lastb) p n v k u d = absurd d.0

    -- ---- the turn

    -- a run at hand is whole
    whole_run : (y : X) (run beyond : List X) (b_en o : Bool) → ReadyB (y ∷ run) beyond b_en o → Level c.within c.across laws y run × Stop c.within c.across laws y beyond × ((es : Bool) → complete c.within c.across es o y (run ++ beyond) ≡ true)
    whole_run y run [] true o d = absurd d
    whole_run y run [] false o d = (d.0, tt, λ es. rw d.1)
    whole_run y run (z ∷ beyond) true o d = absurd d
    whole_run y run (z ∷ beyond) false o d =
        let r = run_is c.within c.across laws y run (z ∷ beyond) d.0 d.1 in
        (d.0, d.1, λ es. or_right o _ (ap is_some r.1))

    kept_run : (g : Ghost X) (st : Streamed X F) (l : List (List X)) (e : Closing F) (sizes : List ℕ) (first : ℕ) (run beyond : List X) (en m : Bool) (last : Option X) (p : Pipe) (n : Counts) (v : V)
        → Core g out st (buffered l e sizes first run beyond en m last) p n v false false → Budget mores cap (n_turns n) 1 0 → ReadyS (s_rows st) (s_ended st) (is_over (s_left st) (s_close st))
        → Rest g run m → RunTurn g (s_place st) first (s_rows st) run beyond (is_over (s_left st) (s_close st)) (is_over l e) → is_full c.deferred c.size p ≡ false → (Ample c → size_of p < c.size + length (noted_of p))
        → Kept out mores cap (run_passed c st (buffered l e sizes first run beyond en m last) p n v)
    kept_run g st l e sizes first run beyond en m last p (counts t nr nu h) v k u d r q f lo =
        let w = core_run g out st l e sizes first run beyond en m last p t nr nu h v k q r f in
        record {
          ghosts = passed_run g beyond (run_gives g first run) w.behind;
          core = core_after g out st l e sizes first run beyond en m false false last p t nr nu h v _ k q r w lo;
          budget = record { under = omega (arith, u.under); told = omega (arith, u.told) };
          now = (d, refl, refl, refl);
        }

    -- the row is noted alone, or not at all
    abbrev Alone : Ghost X → ℕ → ℕ → X → List X → List X → Bool → Bool → Type 0
    Alone g place first x rows beyond so bo = RowTurn g place first x rows so bo × (meeting c.within c.across x g.ahead ≡ []) × Shuns (passes c) x g.ahead

    lone_worth : (f : Record → ℕ) (d : Bool) (r : Record) → worth f d (fixed r ∷ []) ≡ total f (r ∷ [])
    lone_worth f true r = refl
    lone_worth f false r = refl

    alone_gives : (g : Ghost X) (place first : ℕ) (x : X) (rows : List X) → meeting c.within c.across x g.ahead ≡ [] → row_gives g place x rows first ≡ when c.keeps_streamed (LeftAlone place ∷ [])
    alone_gives g place first x rows e = rw e

    -- there is room for one more entry
    one_more_fits : (g : Ghost X) (st : Streamed X F) (bf : Buffered X F) (p : Pipe) (n : Counts) (v : V) → Core g out st bf p n v false false → (Ample c → size_of p < c.size + length (noted_of p)) → Ample c → size_of p + 1 < c.size + c.buffered_table
    one_more_fits g st bf p n v k lo a = go g.ahead refl
      where
        go : (l : List X) → g.ahead ≡ l → size_of p + 1 < c.size + c.buffered_table
        go [] e = omega (arith, lo a, (k.room a).lone (λ j. 1), length_total (noted_of p), unseen_few (base_of p) g.behind, ap length (k.held.drained e), a.1)
        go (x ∷ l) e = omega (arith, lo a, (k.room a).lone (λ j. 1), length_total (noted_of p), unseen_few (base_of p) g.behind, k.held.sums, k.held.place, ap length e, (k.room a).in_table)

    kept_lone : (keeps : Bool) → c.keeps_streamed ≡ keeps → (g : Ghost X) (l : List (List X)) (e : Closing F) (x : X) (rows : List X) (place : ℕ) (last : Option X) (bf : Buffered X F) (p : Pipe) (n : Counts) (v : V)
        → Core g out (streamed l e (x ∷ rows) place false last) bf p n v false false → Budget mores cap (n_turns n) 1 0 → ReadyB (b_run bf) (b_beyond bf) (b_ended bf) (is_over (b_left bf) (b_close bf)) → Rest g (b_run bf) (b_matched bf)
        → Alone g place (b_first bf) x rows (b_beyond bf) (is_over l e) (is_over (b_left bf) (b_close bf)) → (Ample c → size_of p < c.size + length (noted_of p))
        → Kept out mores cap (going (state (streamed l e (x ∷ rows) place false last) bf (lone_row c.deferred c.size keeps place p) n v passing))
    kept_lone true z g l e x rows place last bf p n v k u d r a lo =
        let st = streamed l e (x ∷ rows) place false last in
        let sh = subst (Shuns (passes c) x) k.ahead_is a.2 in
        let o = pushed c.deferred c.size place g.group k.own (fixed (LeftAlone place)) (tt, tt) p k.mode k.range tt in
        record {
          ghosts = with_group g g.here (g.group ++ fixed (LeftAlone place) ∷ []);
          core = core_push g out st bf p (push c.deferred c.size (fixed (LeftAlone place)) p) n v (fixed (LeftAlone place)) g.here k (tt, tt) o k.held.are (grown c.deferred c.size (fixed (LeftAlone place)) p) (one_more_fits g st bf p n v k lo);
          budget = u;
          now = record {
            turns_row = a.0;
            worths = λ f. ap (λ (q : List Entry). worth f c.deferred (q ++ fixed (LeftAlone place) ∷ [])) r.group_none ∙ lone_worth f c.deferred (LeftAlone place) ∙ sym (ap (total f) (alone_gives g place (b_first bf) x rows a.1 ∙ ap (λ (q : Bool). when q (LeftAlone place ∷ [])) z));
            here_is = r.here_is ∙ sym (standing_same (passes c) (b_matched bf) g.passed x (b_run bf) (all_front _ (b_run bf) (b_beyond bf) sh));
            unmet_run = λ q. unmet_push (passes c) g.passed x (b_run bf) (r.unmet_run q) (all_front _ (b_run bf) (b_beyond bf) sh);
            unmet_beyond = unmet_push (passes c) g.passed x (b_beyond bf) k.unmet (all_back _ (b_run bf) (b_beyond bf) sh);
            not_ended = refl;
            ready = d;
          };
        }
    kept_lone false z g l e x rows place last bf p n v k u d r a lo =
        let sh = subst (Shuns (passes c) x) k.ahead_is a.2 in
        record {
          ghosts = g;
          core = k;
          budget = u;
          now = record {
            turns_row = a.0;
            worths = λ f. ap (worth f c.deferred) r.group_none ∙ worth_none f c.deferred ∙ sym (ap (total f) (alone_gives g place (b_first bf) x rows a.1 ∙ ap (λ (q : Bool). when q (LeftAlone place ∷ [])) z));
            here_is = r.here_is ∙ sym (standing_same (passes c) (b_matched bf) g.passed x (b_run bf) (all_front _ (b_run bf) (b_beyond bf) sh));
            unmet_run = λ q. unmet_push (passes c) g.passed x (b_run bf) (r.unmet_run q) (all_front _ (b_run bf) (b_beyond bf) sh);
            unmet_beyond = unmet_push (passes c) g.passed x (b_beyond bf) k.unmet (all_back _ (b_run bf) (b_beyond bf) sh);
            not_ended = refl;
            ready = d;
          };
        }

    -- a turn that passes a run
    run_turn_after : (g : Ghost X) (place first : ℕ) (x : X) (rows : List X) (y : X) (run beyond : List X) (b_en so bo : Bool) → g.ahead ≡ (y ∷ run) ++ beyond → ReadyB (y ∷ run) beyond b_en bo → c.across x y ≡ Greater → RunTurn g place first (x ∷ rows) (y ∷ run) beyond so bo
    run_turn_after g place first x rows y run beyond b_en so bo a d e =
        let w = whole_run y run beyond b_en bo d in
        let r = run_is c.within c.across laws y run beyond w.0 w.1 in
        record { decides = rw (a, e) (w.2 so); is_run = rw (a, e, r.0, r.1) }

    run_turn_end : (g : Ghost X) (place first : ℕ) (y : X) (run beyond : List X) (b_en so bo : Bool) → g.ahead ≡ (y ∷ run) ++ beyond → ReadyB (y ∷ run) beyond b_en bo → so ≡ true → RunTurn g place first [] (y ∷ run) beyond so bo
    run_turn_end g place first y run beyond b_en so bo a d e =
        let w = whole_run y run beyond b_en bo d in
        let r = run_is c.within c.across laws y run beyond w.0 w.1 in
        record { decides = rw (a, e) (w.2 true); is_run = rw (a, r.0, r.1) }

    kept_compared : (o : Ordering) (g : Ghost X) (l : List (List X)) (e : Closing F) (x : X) (rows : List X) (place : ℕ) (last : Option X) (bl' : List (List X)) (be : Closing F) (sizes : List ℕ) (first : ℕ) (y : X) (run beyond : List X) (b_en m : Bool) (lastb : Option X) (p : Pipe) (n : Counts) (v : V)
        → c.across x y ≡ o → Core g out (streamed l e (x ∷ rows) place false last) (buffered bl' be sizes first (y ∷ run) beyond b_en m lastb) p n v false false → Budget mores cap (n_turns n) 1 0
        → ReadyB (y ∷ run) beyond b_en (is_over bl' be) → Rest g (y ∷ run) m → is_full c.deferred c.size p ≡ false → (Ample c → size_of p < c.size + length (noted_of p))
        → Kept out mores cap (compared c o (streamed l e (x ∷ rows) place false last) place (y ∷ run) first (buffered bl' be sizes first (y ∷ run) beyond b_en m lastb) p n v)
    kept_compared Less g l e x rows place last bl' be sizes first y run beyond b_en m lastb p n v q k u d r f lo =
        let bf = buffered bl' be sizes first (y ∷ run) beyond b_en m lastb in
        let o = ordered g out (streamed l e (x ∷ rows) place false last) bf p n v false false k in
        let sorted : Sorted c.within ((y ∷ run) ++ beyond) = subst (Sorted c.within) k.ahead_is o.1 in
        let meets : meeting c.within c.across x g.ahead ≡ [] = rw (k.ahead_is, q) in
        let w = matched_front c.within c.across (passes c) laws only_same x g.ahead o.1 (λ z t s. rw (sym (first_is z t (sym k.ahead_is ∙ s)), q)) in
        kept_lone c.keeps_streamed refl g l e x rows place last bf p n v k u d r
        (record { decides = rw (k.ahead_is, q); is_row = rw (k.ahead_is, q) }, meets, subst (Shuns (passes c) x) (sym (w.1 ∙ ap (λ (t : List X). t ++ w.0) meets)) w.2) lo
      where
        first_is : (z : X) (t : List X) → (y ∷ run) ++ beyond ≡ z ∷ t → y ≡ z
        first_is z t s = cc
    kept_compared Equal g l e x rows place last bl' be sizes first y run beyond b_en m lastb p n v q k u d r f lo =
        let bf = buffered bl' be sizes first (y ∷ run) beyond b_en m lastb in
        let o = ordered g out (streamed l e (x ∷ rows) place false last) bf p n v false false k in
        let sorted : Sorted c.within (y ∷ (run ++ beyond)) = subst (Sorted c.within) k.ahead_is o.1 in
        let w = whole_run y run beyond b_en (is_over bl' be) d in
        let s = run_is c.within c.across laws y run beyond w.0 w.1 in
        record {
          ghosts = g;
          core = k;
          budget = u;
          now = (
            record {
              turns_row = record { decides = rw (k.ahead_is, q) (w.2 (is_over l e)); is_row = rw (k.ahead_is, q) };
              paired = [];
              run_is = refl;
              place_is = omega arith;
              same_run = subst (λ t. AllByRecursion (λ z. c.across x z ≡ Equal) (y ∷ t)) s.0 (run_is_same c.within c.across laws x y (run ++ beyond) q);
              matched_is = rw (k.ahead_is, q) (ap (λ (t : List X). y ∷ t) s.0);
              shuns = All-weaker _ _ (λ z t. shuns_past c.within c.across (passes c) laws only_same x y z q t) beyond (subst (λ t. AllByRecursion (λ z. rank (c.within y z) ≡ 0) t) s.1 (past_is_after c.within c.across laws y (run ++ beyond) sorted));
              group_is = r.group_none;
              here_is = r.here_is;
              unmet_run = r.unmet_run;
              not_ended = refl;
              ready = d;
            },
            λ a. omega (arith, lo a, (k.room a).lone (λ j. 1), length_total (noted_of p), unseen_few (base_of p) g.behind),
          );
        }
    kept_compared Greater g l e x rows place last bl' be sizes first y run beyond b_en m lastb p n v q k u d r f lo =
        kept_run g (streamed l e (x ∷ rows) place false last) bl' be sizes first (y ∷ run) beyond b_en m lastb p n v k u tt r (run_turn_after g place first x rows y run beyond b_en (is_over l e) (is_over bl' be) k.ahead_is d q) f lo

    kept_compare : (g : Ghost X) (st : Streamed X F) (bf : Buffered X F) (p : Pipe) (n : Counts) (v : V) → Core g out st bf p n v false false → Budget mores cap (n_turns n) 1 0
        → Turning g st bf (is_over (s_left st) (s_close st)) (is_over (b_left bf) (b_close bf)) → (s_ended st && b_ended bf) ≡ false → is_full c.deferred c.size p ≡ false → (Ample c → size_of p < c.size + length (noted_of p)) → Kept out mores cap (compare c st bf p n v)
    kept_compare g (streamed l e [] place false last) bf p n v k u d h f lo = absurd d.0
    kept_compare g (streamed l e [] place true last) (buffered bl' be sizes first [] [] false m lastb) p n v k u d h f lo = absurd d.1
    kept_compare g (streamed l e [] place true last) (buffered bl' be sizes first [] [] true m lastb) p n v k u d h f lo = absurd (true≢false h)
    kept_compare g (streamed l e [] place true last) (buffered bl' be sizes first [] (_ ∷ _) b_en m lastb) p n v k u d h f lo = absurd d.1
    kept_compare g (streamed l e [] place true last) (buffered bl' be sizes first (y ∷ run) beyond b_en m lastb) p n v k u d h f lo =
        kept_run g (streamed l e [] place true last) bl' be sizes first (y ∷ run) beyond b_en m lastb p n v k u d.0 d.2 (run_turn_end g place first y run beyond b_en (is_over l e) (is_over bl' be) k.ahead_is d.1 d.0) f lo
    kept_compare g (streamed l e (x ∷ rows) place true last) bf p n v k u d h f lo = absurd d.0
    kept_compare g (streamed l e (x ∷ rows) place false last) (buffered bl' be sizes first [] (_ ∷ _) b_en m lastb) p n v k u d h f lo = absurd d.1
    kept_compare g (streamed l e (x ∷ rows) place false last) (buffered bl' be sizes first [] [] false m lastb) p n v k u d h f lo = absurd d.1
    kept_compare g (streamed l e (x ∷ rows) place false last) (buffered bl' be sizes first [] [] true m lastb) p n v k u d h f lo =
        kept_lone c.keeps_streamed refl g l e x rows place last (buffered bl' be sizes first [] [] true m lastb) p n v k u d.1 d.2
        (record { decides = rw k.ahead_is d.1; is_row = rw k.ahead_is }, rw k.ahead_is, rw k.ahead_is tt) lo
    kept_compare g (streamed l e (x ∷ rows) place false last) (buffered bl' be sizes first (y ∷ run) beyond b_en m lastb) p n v k u d h f lo =
        kept_compared (c.across x y) g l e x rows place last bl' be sizes first y run beyond b_en m lastb p n v refl k u d.1 d.2 f lo

    kept_turn : (g : Ghost X) (st : Streamed X F) (bf : Buffered X F) (p : Pipe) (n : Counts) (v : V) → Core g out st bf p n v false false → Budget mores cap (n_turns n) 1 0
        → Turning g st bf (is_over (s_left st) (s_close st)) (is_over (b_left bf) (b_close bf)) → (s_ended st && b_ended bf) ≡ false → due_of p ≡ [] → Kept out mores cap (turn_step c st bf p n v)
    kept_turn g st bf p n v k u d h none_due =
        kept_cond (is_full c.deferred c.size p) _ _
        (λ _. record {
          ghosts = g;
          core = core_frozen g out st bf p (flush c.deferred p) n v false false k d.2.group_none (flushed c.deferred c.size (s_place st) p (mode_none g out st bf p n v false false k d.2.group_none)).0;
          budget = u;
          now = (d, h);
        })
        (λ f. kept_compare g st bf p n v k u d h f (λ a. low c.deferred c.size (s_place st) p f (mode_none g out st bf p n v false false k d.2.group_none) (k.room a).short none_due))

    -- ---- pairing

    asked : (x y : X) → c.across x y ≡ Equal → c.asks x y ≡ passes c x y
    asked x y e = rw e

    kept_paired : Fair c → (g : Ghost X) (l : List (List X)) (e : Closing F) (x : X) (rows : List X) (place : ℕ) (en : Bool) (last : Option X) (bl' : List (List X)) (be : Closing F) (sizes : List ℕ) (first : ℕ) (y : X) (run beyond : List X) (b_en m : Bool) (lastb : Option X) (j : ℕ) (p : Pipe) (n : Counts) (v : V)
        → Core g out (streamed l e (x ∷ rows) place en last) (buffered bl' be sizes first (y ∷ run) beyond b_en m lastb) p n v false false → Budget mores cap (n_turns n) 1 0
        → Pairing g place first x rows y run beyond m en b_en (is_over l e) (is_over bl' be) [] j
        → Kept out mores cap (going (state (streamed l e (x ∷ rows) place en last) (buffered bl' be sizes first (y ∷ run) beyond b_en true lastb) p n v passing))
    kept_paired fair g l e x rows place en last bl' be sizes first y run beyond b_en m lastb j p n v k u a =
        let all : y ∷ run ≡ a.paired = a.run_is ∙ append-nil a.paired in
        record {
          ghosts = g;
          core = k;
          budget = u;
          now = record {
            turns_row = a.turns_row;
            worths = λ f. ap (worth f c.deferred) (a.group_is ∙ ap (group_of (passes c) place x first) (sym all)) ∙ ap (total f) (settled_group (passes c) c.deferred c.keeps_streamed place x first y run (by_kind fair))
                ∙ ap (λ (t : List X). total f (pairs_of (passes c) place x first t ++ when c.keeps_streamed (when (not (meets_buffered (passes c) x t)) (LeftAlone place ∷ [])))) (sym a.matched_is);
            here_is = a.here_is ∙ append-nil _ ∙ ap (standing (passes c) true (g.passed ++ x ∷ [])) (sym all);
            unmet_run = λ q. absurd (true≢false q);
            unmet_beyond = unmet_push (passes c) g.passed x beyond k.unmet a.shuns;
            not_ended = a.not_ended;
            ready = a.ready;
          };
        }
      where
        by_kind : Fair c → ((c.deferred ≡ true) × (c.keeps_streamed ≡ true)) ⊎ ((c.deferred ≡ false) × ((c.keeps_streamed ≡ false) ⊎ (passes c x y ≡ true)))
        by_kind (inl h) = inl h
        by_kind (inr h) = inr (h.0, go h.1)
          where
            go : (c.keeps_streamed ≡ false) ⊎ ((x y : X) → c.asks x y ≡ true) → (c.keeps_streamed ≡ false) ⊎ (passes c x y ≡ true)
            go (inl z) = inl z
            go (inr z) = inr (sym (asked x y a.same_run.0) ∙ z x y)

    shape : (a s t r : List Mark) (m : Mark) → a ++ ((s ++ (m ∷ t)) ++ r) ≡ (a ++ s) ++ m ∷ (t ++ r)
    shape a s t r m = simp append_assoc

    shape_back : (a s t r : List Mark) (m : Mark) → (a ++ s) ++ m ∷ (t ++ r) ≡ a ++ (((s ++ m ∷ []) ++ t) ++ r)
    shape_back a s t r m = simp append_assoc

    kept_pair : (g : Ghost X) (l : List (List X)) (e : Closing F) (x : X) (rows : List X) (place : ℕ) (en : Bool) (last : Option X) (bl' : List (List X)) (be : Closing F) (sizes : List ℕ) (first : ℕ) (y : X) (run beyond : List X) (b_en m : Bool) (lastb : Option X) (z : X) (todo : List X) (j : ℕ) (p : Pipe) (n : Counts) (v : V)
        → Core g out (streamed l e (x ∷ rows) place en last) (buffered bl' be sizes first (y ∷ run) beyond b_en m lastb) p n v false false → Budget mores cap (n_turns n) 1 0
        → Pairing g place first x rows y run beyond m en b_en (is_over l e) (is_over bl' be) (z ∷ todo) j → (Ample c → size_of p + length (z ∷ todo) < c.size + (length g.behind + length (y ∷ run)))
        → Kept out mores cap (going (state (streamed l e (x ∷ rows) place en last) (buffered bl' be sizes first (y ∷ run) beyond b_en m lastb) (push c.deferred c.size (judged place j (c.asks x z)) p) n v (pairing todo (suc j))))
    kept_pair g l e x rows place en last bl' be sizes first y run beyond b_en m lastb z todo j p n v k u a lo =
        let st = streamed l e (x ∷ rows) place en last in
        let bf = buffered bl' be sizes first (y ∷ run) beyond b_en m lastb in
        let q : Entry = judged place j (c.asks x z) in
        let s : List Mark = standing (passes c) true (g.passed ++ x ∷ []) a.paired in
        let t : List Mark = standing (passes c) m g.passed todo in
        let r : List Mark = replicate (length beyond) unseen in
        let same : c.across x z ≡ Equal = (all_back _ a.paired (z ∷ todo) (subst (AllByRecursion (λ w. c.across x w ≡ Equal)) a.run_is a.same_run)).0 in
        let asks : c.asks x z ≡ passes c x z = asked x z same in
        let fresh' : m ≡ false → meets_streamed (passes c) g.passed z ≡ false = λ i. (all_back _ a.paired (z ∷ todo) (subst (Unmet (passes c) g.passed) a.run_is (a.unmet_run i))).0 in
        let are : marks_of p ≡ (g.behind ++ s) ++ mark_of (passes c) m g.passed z ∷ (t ++ r) = k.held.are ∙ ap (λ (w : List Mark). g.behind ++ (w ++ r)) a.here_is ∙ shape g.behind s t r _ in
        let long : length (g.behind ++ s) ≡ j - base_of p = omega (arith, length-append g.behind s, length_standing (passes c) true (g.passed ++ x ∷ []) a.paired, k.held.place, a.place_is) in
        let here' : List Mark = standing (passes c) true (g.passed ++ x ∷ []) (a.paired ++ z ∷ []) ++ t in
        let marks : mark_at (j - base_of p) (c.asks x z) (marks_of p) ≡ g.behind ++ (here' ++ r) =
        ap (mark_at (j - base_of p) (c.asks x z)) are ∙ mark_middle (j - base_of p) (c.asks x z) (g.behind ++ s) _ (t ++ r) long
        ∙ ap (λ (w : Mark). (g.behind ++ s) ++ w ∷ (t ++ r)) (ap (λ (i : Bool). marked i (mark_of (passes c) m g.passed z)) asks ∙ mark_push (passes c) m g.passed x z fresh')
        ∙ shape_back g.behind s t r _ ∙ ap (λ (w : List Mark). g.behind ++ ((w ++ t) ++ r)) (sym (standing_append (passes c) true (g.passed ++ x ∷ []) a.paired (z ∷ []))) in
        let inside : j - base_of p < length (marks_of p) = omega (arith, ap length are, length-append (g.behind ++ s) (mark_of (passes c) m g.passed z ∷ (t ++ r)), long) in
        let o = pushed c.deferred c.size place g.group k.own q (omega arith, omega arith) p k.mode k.range inside in
        let gr = grown c.deferred c.size q p in
        record {
          ghosts = with_group g here' (g.group ++ q ∷ []);
          core = core_push g out st bf p (push c.deferred c.size q p) n v q here' k (omega arith, omega arith) o marks gr (λ w. omega (arith, lo w, k.held.sums, k.held.place, ap length k.ahead_is, length-append (y ∷ run) beyond, (k.room w).in_table));
          budget = u;
          now = (
            record {
              turns_row = a.turns_row;
              paired = a.paired ++ z ∷ [];
              run_is = a.run_is ∙ sym (append_assoc a.paired (z ∷ []) todo);
              place_is = omega (arith, a.place_is, length-append a.paired (z ∷ []));
              same_run = a.same_run;
              matched_is = a.matched_is;
              shuns = a.shuns;
              group_is = ap (λ (w : List Entry). w ++ q ∷ []) a.group_is ∙ ap (λ (w : Entry). group_of (passes c) place x first a.paired ++ w ∷ []) (ap (λ (w : ℕ). judged place w (c.asks x z)) a.place_is ∙ ap (judged place (first + length a.paired)) asks) ∙ sym (group_push (passes c) place x first a.paired z);
              here_is = refl;
              unmet_run = a.unmet_run;
              not_ended = a.not_ended;
              ready = a.ready;
            },
            λ w. omega (arith, lo w, gr.sizes),
          );
        }

    -- ---- the row is passed

    kept_pass : (g : Ghost X) (l : List (List X)) (e : Closing F) (x : X) (rows : List X) (place : ℕ) (last : Option X) (bf : Buffered X F) (p : Pipe) (n : Counts) (v : V)
        → Core g out (streamed l e (x ∷ rows) place false last) bf p n v false false → Budget mores cap (n_turns n) 1 0
        → Passing g place (b_first bf) x rows (b_run bf) (b_beyond bf) (b_matched bf) false (b_ended bf) (is_over l e) (is_over (b_left bf) (b_close bf))
        → Kept out mores cap (pass c (streamed l e (x ∷ rows) place false last) bf p n v)
    kept_pass g l e x [] place last bf p (counts t nr nu h) v k u a = record {
      ghosts = passed_row g x (row_gives g place x [] (b_first bf));
      core = core_row g out l e x [] place false last bf p t nr nu h v k a.turns_row a.worths a.unmet_beyond;
      budget = record { under = omega (arith, u.under); told = omega (arith, u.told) };
      now = (a.ready, record { group_none = refl; here_is = a.here_is; unmet_run = a.unmet_run });
    }
    kept_pass g l e x (x' ∷ rows) place last bf p (counts t nr nu h) v k u a = record {
      ghosts = passed_row g x (row_gives g place x (x' ∷ rows) (b_first bf));
      core = core_row g out l e x (x' ∷ rows) place false last bf p t nr nu h v k a.turns_row a.worths a.unmet_beyond;
      budget = record { under = omega (arith, u.under); told = omega (arith, u.told) };
      now = (tt, a.ready, record { group_none = refl; here_is = a.here_is; unmet_run = a.unmet_run });
    }

    -- ---- any small step

    few : (f : Bool) → may_count f ≤ 1
    few true = omega arith
    few false = omega arith

    spare_few : (ph : Phase X F) → spare ph ≤ 1
    spare_few (fetching f) = few f
    spare_few (seeding f) = few f
    spare_few (extending f) = few f
    spare_few (closing f) = few f
    spare_few turning = omega arith
    spare_few passing = omega arith
    spare_few done = omega arith
    spare_few (pairing todo j) = omega arith
    spare_few (stopped f) = omega arith

    -- an answer that is not more
    kept_answer : (a : Answer F) (st : Streamed X F) (bf : Buffered X F) (p : Pipe) (n : Counts) (v : V) (ph : Phase X F) → one_more a ≡ 0 → (a ≡ finished → IsDone (state st bf p n v ph)) → Inv' out mores cap st bf p n v ph → Kept out mores cap (answered a (state st bf p n v ph))
    kept_answer a st bf p (counts t nr nu h) v ph e z i = (
      record { ghosts = i.ghosts; core = i.core; budget = record { under = omega (arith, spare_few ph); told = omega (arith, i.budget.told) }; now = i.now },
      omega (arith, i.budget.under),
      z,
    )

    kept_step : Fair c → (ph : Phase X F) (st : Streamed X F) (bf : Buffered X F) (base : ℕ) (marks : List Mark) (noted : List ℕ) (unfrozen entries : List Entry) (n : Counts) (v : V)
        → Inv' out mores cap st bf (pipe base marks noted unfrozen entries []) n v ph → Kept out mores cap (step c ph st bf (pipe base marks noted unfrozen entries []) n v)
    kept_step fair (fetching first) (streamed l e [] place en last) bf base marks noted unfrozen entries n v i = kept_fetch first i.ghosts l e place en last bf (pipe base marks noted unfrozen entries []) n v i.core i.budget i.now.0 i.now.1
    kept_step fair (fetching first) (streamed l e (_ ∷ _) place en last) bf base marks noted unfrozen entries n v i = absurd i.now
    kept_step fair (seeding f) st (buffered l e sizes first [] beyond en m last) base marks noted unfrozen entries n v i = kept_seed f i.ghosts st l e sizes first beyond en m last (pipe base marks noted unfrozen entries []) n v i.core i.budget i.now.0 i.now.2 i.now.3
    kept_step fair (seeding f) st (buffered l e sizes first (_ ∷ _) beyond en m last) base marks noted unfrozen entries n v i = absurd (nil≢cons (sym i.now.1))
    kept_step fair (extending f) st (buffered l e sizes first [] beyond en m last) base marks noted unfrozen entries n v i = absurd i.now.1
    kept_step fair (extending f) st (buffered l e sizes first (y ∷ run) beyond true m last) base marks noted unfrozen entries n v i = absurd (true≢false i.now.2)
    kept_step fair (extending f) st (buffered l e sizes first (y ∷ run) beyond false true last) base marks noted unfrozen entries n v i = absurd (true≢false i.now.3)
    kept_step fair (extending f) st (buffered l e sizes first (y ∷ run) beyond false false last) base marks noted unfrozen entries n v i = kept_extend f i.ghosts st l e sizes first y run beyond last (pipe base marks noted unfrozen entries []) n v i.core i.budget i.now.0 i.now.1 i.now.4
    kept_step fair (closing f) st bf base marks noted unfrozen entries n v i = kept_close f i.ghosts st bf (pipe base marks noted unfrozen entries []) n v i.core i.budget i.now
    kept_step fair turning st bf base marks noted unfrozen entries n v i = kept_turn i.ghosts st bf (pipe base marks noted unfrozen entries []) n v i.core i.budget i.now.0 i.now.1 refl
    kept_step fair passing (streamed l e [] place en last) bf base marks noted unfrozen entries n v i = absurd i.now
    kept_step fair passing (streamed l e (x ∷ rows) place true last) bf base marks noted unfrozen entries n v i = absurd (true≢false i.now.not_ended)
    kept_step fair passing (streamed l e (x ∷ rows) place false last) bf base marks noted unfrozen entries n v i = kept_pass i.ghosts l e x rows place last bf (pipe base marks noted unfrozen entries []) n v i.core i.budget i.now
    kept_step fair done st bf base marks noted unfrozen entries n v i = kept_answer finished st bf (pipe base marks noted unfrozen entries []) n v done refl (λ _. refl) i
    kept_step fair (pairing todo j) (streamed l e [] place en last) bf base marks noted unfrozen entries n v i = absurd i.now.0
    kept_step fair (pairing todo j) (streamed l e (x ∷ rows) place en last) (buffered bl' be sizes first [] beyond b_en m lastb) base marks noted unfrozen entries n v i = absurd i.now.0
    kept_step fair (pairing [] j) (streamed l e (x ∷ rows) place en last) (buffered bl' be sizes first (y ∷ run) beyond b_en m lastb) base marks noted unfrozen entries n v i =
        kept_paired fair i.ghosts l e x rows place en last bl' be sizes first y run beyond b_en m lastb j (pipe base marks noted unfrozen entries []) n v i.core i.budget i.now.0
    kept_step fair (pairing (z ∷ todo) j) (streamed l e (x ∷ rows) place en last) (buffered bl' be sizes first (y ∷ run) beyond b_en m lastb) base marks noted unfrozen entries n v i =
        kept_pair i.ghosts l e x rows place en last bl' be sizes first y run beyond b_en m lastb z todo j (pipe base marks noted unfrozen entries []) n v i.core i.budget i.now.0 i.now.1
    kept_step fair (stopped f) st bf base marks noted unfrozen entries n v i = kept_answer (failed f) st bf (pipe base marks noted unfrozen entries []) n v (stopped f) refl (λ q. cc) i

    -- what is due does not matter to the phase
    now_due : (g : Ghost X) (st : Streamed X F) (bf : Buffered X F) (base : ℕ) (marks : List Mark) (noted : List ℕ) (unfrozen entries : List Entry) (due due' : List Record) (ph : Phase X F) (so bo : Bool) → length due' ≤ length due
        → Now g st bf (pipe base marks noted unfrozen entries due) ph so bo → Now g st bf (pipe base marks noted unfrozen entries due') ph so bo
    now_due g st bf base marks noted unfrozen entries due due' (fetching f) so bo le h = h
    now_due g st bf base marks noted unfrozen entries due due' (seeding f) so bo le h = h
    now_due g st bf base marks noted unfrozen entries due due' (extending f) so bo le h = h
    now_due g st bf base marks noted unfrozen entries due due' (closing f) so bo le h = h
    now_due g st bf base marks noted unfrozen entries due due' turning so bo le h = h
    now_due g st bf base marks noted unfrozen entries due due' passing so bo le h = h
    now_due g st bf base marks noted unfrozen entries due due' done so bo le h = h
    now_due g st bf base marks noted unfrozen entries due due' (pairing todo j) so bo le h = (h.0, λ a. omega (arith, h.1 a))
    now_due g st bf base marks noted unfrozen entries due due' (stopped f) so bo le h = h

    pub kept_micro : Fair c → (s : State X F V) → Inv out mores cap s → Kept out mores cap (micro c s)
    kept_micro fair (state st bf (pipe base marks noted unfrozen entries []) n v ph) i = kept_step fair ph st bf base marks noted unfrozen entries n v i
    kept_micro fair (state st bf (pipe base marks noted unfrozen entries (r ∷ due)) (counts t nr nu h) v ph) i =
        kept_cond (c.fits v r) _ _
        (λ e. record {
          ghosts = i.ghosts;
          core = core_give i.ghosts out st bf base marks noted unfrozen entries r due t nr nu h v (streamed_failed ph) (buffered_failed ph) i.core e;
          budget = i.budget;
          now = now_due i.ghosts st bf base marks noted unfrozen entries (r ∷ due) due ph (so_of st ph) (bo_of bf ph) (omega arith) i.now;
        })
        (λ e. kept_answer waiting st bf (pipe base marks noted unfrozen entries (r ∷ due)) (counts t nr nu h) v ph refl (λ q. cc) i)

  -- ---- calls

  start_mode : (d : Bool) (size : ℕ) → Moded d size 0 [] (pipe 0 [] [] [] [] [])
  start_mode true size = mode_empty size 0
  start_mode false size = refl

  none_when : (f : Record → ℕ) (t : Bool) → total f (when t []) ≡ 0
  none_when f true = refl
  none_when f false = refl

  pub opened_inv : Inv [] 0 1 (opened sl sc bl bc v₀)
  opened_inv = record {
    ghosts = record { read_s = []; lost_s = []; read_b = []; lost_b = []; passed = []; ahead = []; gave = []; behind = []; here = []; group = [] };
    core = record {
      streamed_side = record { whole = refl; intact = λ _. refl; sorted = tt; last_is = refl; size = refl };
      buffered_side = record { whole = refl; intact = λ _. refl; sorted = tt; last_is = refl; size = refl };
      ahead_is = refl;
      good = safe_s [] [] (is_over bl bc) [] 0 (at [] 0 [] 0 []) (is_over sl sc) (safe_b [] [] false [] 0 (at [] 0 [] 0 []) (is_over bl bc) (good_blank c.within c.across (passes c) c.keeps_streamed c.keeps_buffered laws only_same));
      fresh = λ s' b' fs fb h k. tt;
      unmet = tt;
      held = record { sums = refl; place = refl; are = refl; drained = λ _. refl };
      range = tt;
      own = tt;
      mode = start_mode c.deferred c.size;
      owes = λ f. omega (arith, none_when f c.keeps_buffered, worth_none f c.deferred);
      tally = record { rows_are = refl; turns_are = refl; handed_are = refl; led = refl };
      room = λ a. record { lone = λ f. omega arith; short = a.0; in_table = omega arith; in_pipe = omega (arith, a.0) };
      trace = λ s' b' fs fb. record { rows_are = refl; runs_are = refl; stands = refl };
    };
    budget = record { under = omega arith; told = omega arith };
    now = ((refl, refl), record { group_none = refl; here_is = refl; unmet_run = λ _. tt });
  }

  pub kept_turned : Fair c → {s s' : State X F V} {l : List Record} {a : Answer F} → Turned c s l a s' → (out : List Record) (mores cap : ℕ) → Inv out mores cap s
      → Inv (out ++ l) (mores + one_more a) (turns_of s' + 1) s' × (turns_of s' ≤ cap) × (a ≡ finished → IsDone s')
  kept_turned fair (answers {s = s} {s' = s'} {a = a} e) out mores cap i =
      let k = subst (Kept out mores cap) e (kept_micro out mores cap fair s i) in
      (subst (λ o. Inv o (mores + one_more a) (turns_of s' + 1) s') (sym (append-nil out)) k.0, k.1, k.2)
  kept_turned fair (steps {s = s} {s' = s'} e t) out mores cap i = kept_turned fair t out mores cap (subst (Kept out mores cap) e (kept_micro out mores cap fair s i))
  kept_turned fair (hands {s = s} {s'' = s''} {r = r} {l = l} {a = a} e t) out mores cap i =
      let k = kept_turned fair t (out ++ r ∷ []) mores cap (subst (Kept out mores cap) e (kept_micro out mores cap fair s i)) in
      (subst (λ o. Inv o (mores + one_more a) (turns_of s'' + 1) s'') (append_assoc out (r ∷ []) l) k.0, k.1, k.2)

  -- a finished join stays as it is
  done_micro : (s : State X F V) → IsDone s → micro c s ≡ answered finished s
  done_micro (state st bf (pipe base marks noted unfrozen entries []) n v done) d = refl
  done_micro (state st bf (pipe base marks noted unfrozen entries (r ∷ due)) n v done) d = absurd (nil≢cons (sym d))
  done_micro (state st bf (pipe base marks noted unfrozen entries due) n v (fetching f)) d = absurd d
  done_micro (state st bf (pipe base marks noted unfrozen entries due) n v (seeding f)) d = absurd d
  done_micro (state st bf (pipe base marks noted unfrozen entries due) n v (extending f)) d = absurd d
  done_micro (state st bf (pipe base marks noted unfrozen entries due) n v (closing f)) d = absurd d
  done_micro (state st bf (pipe base marks noted unfrozen entries due) n v turning) d = absurd d
  done_micro (state st bf (pipe base marks noted unfrozen entries due) n v passing) d = absurd d
  done_micro (state st bf (pipe base marks noted unfrozen entries due) n v (pairing todo j)) d = absurd d
  done_micro (state st bf (pipe base marks noted unfrozen entries due) n v (stopped f)) d = absurd d

  abbrev next_of : Outcome X F V → State X F V → State X F V
  next_of (going s) d = d
  next_of (gives r s) d = d
  next_of (answered a s) d = s

  done_stays : {s s' : State X F V} {l : List Record} {a : Answer F} → Turned c s l a s' → IsDone s → IsDone s'
  done_stays (answers {s = s} {s' = s'} e) d = subst IsDone (ap (λ (o : Outcome X F V). next_of o s) (sym (done_micro s d) ∙ e)) d
  done_stays (steps {s = s} e t) d = let q = done_micro s d in cc
  done_stays (hands {s = s} e t) d = let q = done_micro s d in cc

  mores_push : (told : List (Answer F)) (a : Answer F) → mores (told ++ a ∷ []) ≡ mores told + one_more a
  mores_push [] a = omega arith
  mores_push (b ∷ told) a = omega (arith, mores_push told a)

  -- the last of a list, or one before
  has_push : {A : Type 0} (l : List A) (a b : A) → Has (l ++ a ∷ []) b → Has l b ⊎ (a ≡ b)
  has_push l a b h = ⊎_elim (λ k. inl (at_from_Contains l b k)) inr (Contains-push_cases l a b (Contains-from_at (l ++ a ∷ []) b h))

  pub runs_inv : Fair c → {out : List Record} {told : List (Answer F)} {s : State X F V} → Runs c sl sc bl bc v₀ out told s → Inv out (mores told) (turns_of s + 1) s × (Has told finished → IsDone s)
  runs_inv fair none = (opened_inv, λ h. absurd (omega (arith, h.1)))
  runs_inv fair (turned {out = out} {l = l} {told = told} {a = a} {s = s} {s' = s'} r t) =
      let i = runs_inv fair r in
      let k = kept_turned fair t out (mores told) (turns_of s + 1) i.0 in
      (subst (λ m. Inv (out ++ l) m (turns_of s' + 1) s') (sym (mores_push told a)) k.0, λ h. go (has_push told a finished h) i k)
    where
      go : Has told finished ⊎ (a ≡ finished) → Inv out (mores told) (turns_of s + 1) s × (Has told finished → IsDone s) → Inv (out ++ l) (mores told + one_more a) (turns_of s' + 1) s' × (turns_of s' ≤ turns_of s + 1) × (a ≡ finished → IsDone s') → IsDone s'
      go (inl h) i k = done_stays t (i.1 h)
      go (inr e) i k = k.2 e
  runs_inv fair (reported r) = runs_inv fair r

  -- ---- what the invariant says

  -- what is handed over is part of what the path gives, with what a row at hand gives
  abbrev to_go : path_state X → List Record
  to_go = to_come (passes c) c.keeps_streamed c.keeps_buffered

  row_covered : (passed ahead : List X) (place first : ℕ) (x : X) (rows : List X) (so bo : Bool) (s' b' : List X) → RowTurn' passed ahead place first x rows so bo → Follows so s' → Follows bo b' → Sorted c.within ((x ∷ rows) ++ s') → Sorted c.within (ahead ++ b')
      → (rest : List Record) × ((f : Record → ℕ) → total f (pass_row c.within c.across (passes c) c.keeps_streamed c.keeps_buffered passed place x rows first ahead).gives + total f rest ≡ total f (to_go (at passed place ((x ∷ rows) ++ s') first (ahead ++ b'))))
  row_covered passed ahead place first x rows so bo s' b' r fs fb hs hb =
      let t = at passed place (x ∷ rows) first ahead in
      let u = pass_row c.within c.across (passes c) c.keeps_streamed c.keeps_buffered passed place x rows first ahead in
      let e : turn_at (extended t s' b') ≡ with_more c.within c.across so bo (passes c) c.keeps_streamed c.keeps_buffered s' b' fs fb u =
      turn_alike c.within c.across so bo (passes c) c.keeps_streamed c.keeps_buffered s' b' fs fb t r.decides ∙ ap (with_more c.within c.across so bo (passes c) c.keeps_streamed c.keeps_buffered s' b' fs fb) r.is_row in
      let k = turn_keeps c.within c.across (passes c) laws only_same c.keeps_streamed c.keeps_buffered (extended t s' b') (hs, hb) in
      (to_go (turn_at (extended t s' b')).next, λ f. ap (λ (w : Turn X). total f w.gives + total f (to_go (turn_at (extended t s' b')).next)) (sym e) ∙ sym (total_append f (turn_at (extended t s' b')).gives _) ∙ same_from_perm k.makes_up f)

  abbrev Covered : Ghost X → Streamed X F → Buffered X F → List X → List X → Type 0
  Covered g st bf s' b' = (rest : List Record) × ((f : Record → ℕ) → worth f c.deferred g.group + total f rest ≡ total f (to_go (at g.passed (s_place st) (s_rows st ++ s') (b_first bf) (g.ahead ++ b'))))

  none_covered : (g : Ghost X) (st : Streamed X F) (bf : Buffered X F) (s' b' : List X) → g.group ≡ [] → Covered g st bf s' b'
  none_covered g st bf s' b' e = (to_go (at g.passed (s_place st) (s_rows st ++ s') (b_first bf) (g.ahead ++ b')), λ f. omega (arith, ap (worth f c.deferred) e, worth_none f c.deferred))

  plain_covered : c.deferred ≡ false → (ph : Phase X F) (g : Ghost X) (st : Streamed X F) (bf : Buffered X F) (p : Pipe) (s' b' : List X) → Now g st bf p ph (so_of st ph) (bo_of bf ph) → Follows (so_of st ph) s' → Follows (bo_of bf ph) b'
      → Sorted c.within (s_rows st ++ s') → Sorted c.within (g.ahead ++ b') → Covered g st bf s' b'
  plain_covered d (fetching f) g (streamed l e [] place en last) bf p s' b' i fs fb hs hb = none_covered g (streamed l e [] place en last) bf s' b' i.1.group_none
  plain_covered d (fetching f) g (streamed l e (_ ∷ _) place en last) bf p s' b' i fs fb hs hb = absurd i
  plain_covered d (seeding f) g st bf p s' b' i fs fb hs hb = none_covered g st bf s' b' i.2
  plain_covered d (extending f) g st bf p s' b' i fs fb hs hb = none_covered g st bf s' b' i.4.group_none
  plain_covered d (closing f) g st bf p s' b' i fs fb hs hb = none_covered g st bf s' b' i.2.group_none
  plain_covered d turning g st bf p s' b' i fs fb hs hb = none_covered g st bf s' b' i.0.2.group_none
  plain_covered d done g st bf p s' b' i fs fb hs hb = none_covered g st bf s' b' i.0.group_none
  plain_covered d (stopped f) g st bf p s' b' i fs fb hs hb = none_covered g st bf s' b' i
  plain_covered d passing g (streamed l e [] place en last) bf p s' b' i fs fb hs hb = absurd i
  plain_covered d passing g (streamed l e (x ∷ rows) place en last) bf p s' b' i fs fb hs hb =
      let r = row_covered g.passed g.ahead place (b_first bf) x rows _ _ s' b' i.turns_row fs fb hs hb in
      (r.0, λ f. omega (arith, i.worths f, r.1 f))
  plain_covered d (pairing todo j) g (streamed l e [] place en last) bf p s' b' i fs fb hs hb = absurd i.0
  plain_covered d (pairing todo j) g (streamed l e (x ∷ rows) place en last) (buffered bl' be sizes first [] beyond b_en m lastb) p s' b' i fs fb hs hb = absurd i.0
  plain_covered d (pairing todo j) g (streamed l e (x ∷ rows) place en last) (buffered bl' be sizes first (y ∷ run) beyond b_en m lastb) p s' b' i fs fb hs hb =
      let r = row_covered g.passed g.ahead place first x rows _ _ s' b' i.0.turns_row fs fb hs hb in
      let met_rows : List X = meeting c.within c.across x g.ahead in
      let lone : List Record = when c.keeps_streamed (when (not (meets_buffered (passes c) x met_rows)) (LeftAlone place ∷ [])) in
      let left_over : List Record = pairs_of (passes c) place x (first + length i.0.paired) todo in (
        left_over ++ (lone ++ r.0),
        λ f.
            omega (
              arith,
              r.1 f,
              total_append f left_over (lone ++ r.0),
              total_append f lone r.0,
              total_append f (pairs_of (passes c) place x first met_rows) lone,
              ap (λ (q : List X). total f (pairs_of (passes c) place x first q)) (i.0.matched_is ∙ i.0.run_is),
              ap (total f) (pairs_append (passes c) place x first i.0.paired todo),
              total_append f (pairs_of (passes c) place x first i.0.paired) left_over,
              ap (worth f c.deferred) i.0.group_is,
              ap (λ (q : Bool). worth f q (group_of (passes c) place x first i.0.paired)) d,
              ap (total f) (plain_group (passes c) place x first i.0.paired),
            ),
      )

  covered : (out : List Record) (m cap : ℕ) (st : Streamed X F) (bf : Buffered X F) (p : Pipe) (n : Counts) (v : V) (ph : Phase X F) (i : Inv' out m cap st bf p n v ph) (s' b' : List X) → Follows (so_of st ph) s' → Follows (bo_of bf ph) b'
      → Sorted c.within (i.ghosts.read_s ++ s') → Sorted c.within (i.ghosts.read_b ++ b') → (later : List Record) × Same (out ++ later) (joined c (i.ghosts.read_s ++ s') (i.ghosts.read_b ++ b'))
  covered out m cap st bf (pipe base marks noted unfrozen entries due) n v ph i s' b' fs fb hs hb = go c.deferred refl
    where
      g : Ghost X
      g = i.ghosts

      fails : List Record
      fails = when c.keeps_buffered (failures base i.ghosts.behind)

      go : (d : Bool) → c.deferred ≡ d → (later : List Record) × Same (out ++ later) (joined c (i.ghosts.read_s ++ s') (i.ghosts.read_b ++ b'))
      go true e =
          let k = i.core in
          let h = k.good s' b' fs fb hs hb in
          let q = parts (subst (λ d. ModeOf d c.size (s_place st) i.ghosts.group noted unfrozen entries) e k.mode) in
          let rest : List Record = to_go (at i.ghosts.passed (s_place st) (s_rows st ++ s') (b_first bf) (i.ghosts.ahead ++ b')) in (
            due ++ (settled true q.0 ++ (alones noted ++ (fails ++ rest))),
            λ f.
                omega (
                  arith,
                  k.owes f,
                  same_from_perm h.makes_up f,
                  total_append f i.ghosts.gave rest,
                  total_append f out (due ++ (settled true q.0 ++ (alones noted ++ (fails ++ rest)))),
                  total_append f due (settled true q.0 ++ (alones noted ++ (fails ++ rest))),
                  total_append f (settled true q.0) (alones noted ++ (fails ++ rest)),
                  total_append f (alones noted) (fails ++ rest),
                  total_append f fails rest,
                  ap (λ (d : Bool). worth f d (entries ++ unfrozen)) e,
                  ap (λ (d : Bool). worth f d i.ghosts.group) e,
                  ap (worth f true) q.1,
                  worth_apart f true q.0 i.ghosts.group (apart_cut (s_place st) q.0 i.ghosts.group q.2 (All-weaker (Own (s_place st)) (From (s_place st)) (λ w z. z.0) i.ghosts.group k.own)),
                ),
          )
      go false e =
          let k = i.core in
          let h = k.good s' b' fs fb hs hb in
          let o = h.ordered in
          let r = plain_covered e ph i.ghosts st bf (pipe base marks noted unfrozen entries due) s' b' i.now fs fb o.0 o.1 in
          let inner : List Record = settled c.deferred (entries ++ unfrozen) in
          let rest : List Record = to_go (at i.ghosts.passed (s_place st) (s_rows st ++ s') (b_first bf) (i.ghosts.ahead ++ b')) in (
            due ++ (inner ++ (alones noted ++ (fails ++ r.0))),
            λ f.
                omega (
                  arith,
                  k.owes f,
                  same_from_perm h.makes_up f,
                  r.1 f,
                  total_append f i.ghosts.gave rest,
                  total_append f out (due ++ (inner ++ (alones noted ++ (fails ++ r.0)))),
                  total_append f due (inner ++ (alones noted ++ (fails ++ r.0))),
                  total_append f inner (alones noted ++ (fails ++ r.0)),
                  total_append f (alones noted) (fails ++ r.0),
                  total_append f fails r.0,
                ),
          )

  -- ---- the law

  over_none : (l : List (List X)) (e : Closing F) → is_over l e ≡ true → l ≡ []
  over_none [] e h = refl
  over_none (b ∷ l) e h = absurd (false≢true h)

  record Ended (out : List Record) (rows runs' : ℕ) : Type 0 where
    all_out : Same out (joined c (rows_in sl) (rows_in bl))
    all_rows : rows ≡ length (rows_in sl)
    all_runs : runs' ≡ runs c.within (rows_in bl)

  all_read : (log read lost : List X) (left : List (List X)) → log ≡ read ++ (lost ++ rows_in left) → lost ≡ [] → left ≡ [] → read ++ [] ≡ log
  all_read log read lost left e z w = sym (e ∙ ap (λ (l : List X). read ++ (l ++ rows_in left)) z ∙ ap (λ (l : List (List X)). read ++ rows_in l) w)

  ended_facts : (out : List Record) (m cap : ℕ) (st : Streamed X F) (bf : Buffered X F) (p : Pipe) (t nr nu h : ℕ) (v : V) (ph : Phase X F) → Inv' out m cap st bf p (counts t nr nu h) v ph → IsDone (state st bf p (counts t nr nu h) v ph) → Ended out nr nu
  ended_facts out m cap st bf (pipe base marks noted unfrozen entries due) t nr nu h v done i d =
      let g = i.ghosts in
      let k = i.core in
      let z = i.now.0 in
      let o = i.now.1 in
      let s = k.streamed_side in
      let b = k.buffered_side in
      let rs : g.read_s ++ [] ≡ rows_in sl = all_read _ g.read_s g.lost_s (s_left st) s.whole (s.intact refl) (over_none (s_left st) (s_close st) z.s_over_is) in
      let rb : g.read_b ++ [] ≡ rows_in bl = all_read _ g.read_b g.lost_b (b_left bf) b.whole (b.intact refl) (over_none (b_left bf) (b_close bf) z.b_over_is) in
      let q = k.good [] [] (λ _. refl) (λ _. refl) (rw append-nil s.sorted) (rw append-nil b.sorted) in
      let here : path_state X = at g.passed (s_place st) (s_rows st ++ []) (b_first bf) (g.ahead ++ []) in
      let none_left : left c.within c.across (passes c) c.keeps_streamed c.keeps_buffered here ≡ 0 = rw (z.rows_none, z.ahead_none) in
      let nothing = nothing_to_come c.within c.across (passes c) c.keeps_streamed c.keeps_buffered here none_left in
      record {
        all_out = λ f.
            omega (
              arith,
              k.owes f,
              same_from_perm q.makes_up f,
              total_append f g.gave (to_go here),
              ap (total f) nothing,
              ap (λ (l : List X). total f (joined c l (g.read_b ++ []))) rs,
              ap (λ (l : List X). total f (joined c (rows_in sl) l)) rb,
              ap (total f) d,
              ap (λ (l : List Entry). worth f c.deferred (l ++ unfrozen)) o.2,
              ap (worth f c.deferred) o.1,
              worth_none f c.deferred,
              ap (λ (l : List ℕ). total f (alones l)) o.0,
              ap (λ (l : List Mark). total f (when c.keeps_buffered (failures base l))) (k.held.drained z.ahead_none),
              none_when f c.keeps_buffered,
              ap (worth f c.deferred) z.group_none,
            );
        all_rows = omega (arith, k.tally.rows_are, s.size, ap length z.rows_none, ap length (sym (append-nil g.read_s) ∙ rs));
        all_runs = omega (arith, q.counts, none_left, k.tally.turns_are, k.tally.rows_are, s.size, ap length z.rows_none, ap length (sym (append-nil g.read_s) ∙ rs), ap length rs, ap (runs c.within) rb);
      }
  ended_facts out m cap st bf (pipe base marks noted unfrozen entries due) t nr nu h v (fetching f) i d = absurd d
  ended_facts out m cap st bf (pipe base marks noted unfrozen entries due) t nr nu h v (seeding f) i d = absurd d
  ended_facts out m cap st bf (pipe base marks noted unfrozen entries due) t nr nu h v (extending f) i d = absurd d
  ended_facts out m cap st bf (pipe base marks noted unfrozen entries due) t nr nu h v (closing f) i d = absurd d
  ended_facts out m cap st bf (pipe base marks noted unfrozen entries due) t nr nu h v turning i d = absurd d
  ended_facts out m cap st bf (pipe base marks noted unfrozen entries due) t nr nu h v passing i d = absurd d
  ended_facts out m cap st bf (pipe base marks noted unfrozen entries due) t nr nu h v (pairing todo j) i d = absurd d
  ended_facts out m cap st bf (pipe base marks noted unfrozen entries due) t nr nu h v (stopped f) i d = absurd d

  whole_log : (read lost : List X) (l : List (List X)) (e : Closing F) (d : Bool) → (d ≡ false → lost ≡ []) → Follows (over d l e) (lost ++ rows_in l)
  whole_log read lost l e true h z = absurd (false≢true z)
  whole_log read lost l e false h z = ap (λ (w : List X). w ++ rows_in l) (h refl) ∙ ap rows_in (over_none l e z)

  room_is : (p : Pipe) (st : Streamed X F) (bf : Buffered X F) (n : Counts) (v : V) (ph : Phase X F) → size_of p < c.size + c.buffered_table → 1 ≤ c.size → in_block (state st bf p n v ph) ≤ (c.size - 1) + c.buffered_table
  room_is (pipe base marks noted unfrozen entries due) st bf n v ph h l = omega arith

  pub lawful_inv : Fair c → (out : List Record) (told : List (Answer F)) (s : State X F V) → Inv out (mores told) (turns_of s + 1) s → (Has told finished → IsDone s) → Lawful c sl sc bl bc v₀ out told s
  lawful_inv fair out told (state (streamed l e rows place en last) (buffered bl' be sizes first run beyond b_en m lastb) p (counts t nr nu h) v ph) i fin =
      let st = streamed l e rows place en last in
      let bf = buffered bl' be sizes first run beyond b_en m lastb in
      let n = counts t nr nu h in
      let g = i.ghosts in
      let k = i.core in
      let rs : take (place + length rows) (rows_in sl) ≡ g.read_s = ap (take (place + length rows)) k.streamed_side.whole ∙ take_at g.read_s _ _ k.streamed_side.size in
      let rb : take (first + length (run ++ beyond)) (rows_in bl) ≡ g.read_b = ap (take (first + length (run ++ beyond))) k.buffered_side.whole ∙ take_at g.read_b _ _ (k.buffered_side.size ∙ ap (λ (q : List X). first + length q) k.ahead_is) in
      let own_rows = covered out (mores told) (t + 1) st bf p n v ph i [] [] (λ _. refl) (λ _. refl) (rw append-nil k.streamed_side.sorted) (rw append-nil k.buffered_side.sorted) in
      record {
        once = distinct_front out own_rows.0 (distinct_perm (Permᴰ.symm (perm_from_same _ _ own_rows.1)) (table_distinct (passes c) c.keeps_streamed c.keeps_buffered (g.read_s ++ []) (g.read_b ++ [])));
        belongs = λ s' b' fs fb gs gb.
            let q = covered out (mores told) (t + 1) st bf p n v ph i s' b' fs fb (sorted_on c.within g.read_s s' k.streamed_side.sorted (subst (λ x. InOrderAfter c.within (last_of None x) s') rs gs)) (sorted_on c.within g.read_b b' k.buffered_side.sorted (subst (λ x. InOrderAfter c.within (last_of None x) b') rb gb)) in
            subst (λ x. AllByRecursion (Has (joined c (x ++ s') (take (first + length (run ++ beyond)) (rows_in bl) ++ b'))) out) (sym rs) (subst (λ x. AllByRecursion (Has (joined c (g.read_s ++ s') (x ++ b'))) out) (sym rb) (all_have out q.0 _ (perm_from_same _ _ q.1)));
        whole = λ z. shuffled_from_perm (perm_from_same _ _ (ended_facts out (mores told) (t + 1) st bf p t nr nu h v ph i (fin z)).all_out);
        turns = k.tally.turns_are;
        path =
            let ws = whole_log g.read_s g.lost_s l e (streamed_failed ph) k.streamed_side.intact in
            let wb = whole_log g.read_b g.lost_b bl' be (buffered_failed ph) k.buffered_side.intact in
            let q = k.trace (g.lost_s ++ rows_in l) (g.lost_b ++ rows_in bl') ws wb in (
              sym q.rows_are ∙ ap (λ (z : List X). counted_to one_row t (start z (g.read_b ++ (g.lost_b ++ rows_in bl')))) (sym k.streamed_side.whole) ∙ ap (λ (z : List X). counted_to one_row t (start (rows_in sl) z)) (sym k.buffered_side.whole),
              sym q.runs_are ∙ ap (λ (z : List X). counted_to one_run t (start z (g.read_b ++ (g.lost_b ++ rows_in bl')))) (sym k.streamed_side.whole) ∙ ap (λ (z : List X). counted_to one_run t (start (rows_in sl) z)) (sym k.buffered_side.whole),
            );
        one_turn = λ l' a s' u. (kept_turned fair u out (mores told) (t + 1) i).1;
        answers = omega (arith, i.budget.told);
        ends = λ z. let q = ended_facts out (mores told) (t + 1) st bf p t nr nu h v ph i (fin z) in (q.all_rows, q.all_runs);
        handed = k.tally.handed_are;
        room = λ a. room_is p st bf n v ph (k.room a).in_pipe a.0;
        led = k.tally.led;
      }

  pub lawful : Fair c → Law c sl sc bl bc v₀
  lawful fair out told s r = let i = runs_inv fair r in lawful_inv fair out told s i.0 i.1

  -- at the end the records handed over are those of the joined table
  pub whole_perm : Fair c → (out : List Record) (told : List (Answer F)) (s : State X F V) → Runs c sl sc bl bc v₀ out told s → Has told finished → Permᴰ out (joined c (rows_in sl) (rows_in bl))
  whole_perm fair out told s r h = let i = runs_inv fair r in go s i.0 (i.1 h)
    where
      go : (s : State X F V) → Inv out (mores told) (turns_of s + 1) s → IsDone s → Permᴰ out (joined c (rows_in sl) (rows_in bl))
      go (state st bf p (counts t nr nu hd) v ph) i d = perm_from_same _ _ (ended_facts out (mores told) (t + 1) st bf p t nr nu hd v ph i d).all_out
