-- What the block holds, and what the steps of a join make of it.
use Rattle.std.specs.Prelude.{◌≡◌, ℕ, zero, suc, ◌+◌, ◌-◌, ◌≤◌, Bool, true, false, cond, ◌&&◌, List, [], ◌∷◌, ◌++◌, reverse, length, take, drop, Some, None, Option, Result, is_ok, ◌==◌, nat_le}
use Rattle.rows.specs.declared.kind.Kind.{Kind}
use Rattle.rows.specs.declared.reading.Reading.{Reading}
use Rattle.rows.specs.declared.record.Record.{Record}
use Rattle.pipeline.specs.declared.entry.Entry.{Entry}
use Rattle.pipeline.specs.declared.queue.Queue.{Queue}
use Rattle.pipeline.specs.declared.refused.Refused.{Refused}
use Rattle.pipeline.specs.declared.states.FilterState.{FilterState}
use Rattle.pipeline.specs.declared.states.FilterState.TheVariants.{Unvisited, AllFailed, SomePassed}
use Rattle.pipeline.specs.Entries.{lone}
use Rattle.pipeline.specs.Orient.{buffered_alone}
use Rattle.pipeline.specs.States.{failed}
use Rattle.pipeline.specs.Freezing.{judged_all, passing}
use Rattle.pipeline.specs.Correction.{corrected}

abbrev pub records : List Entry → List Record
records [] = []
records (e ∷ es) = e.«record» ∷ records es

-- The noted buffered rows, oldest first; what is unfrozen; what is frozen and not corrected yet; the records due.
pub record Queued : Type 0 where
  pub noted : List Entry
  pub unfrozen : List Entry
  pub frozen : List Entry
  pub due : List Record

-- the numbers leave room for what they count
pub record Roomy (q : Queue) (block : List Entry) : Type 0 where
  pub held : q.frozen + q.unfrozen + q.noted ≤ length block
  pub front : q.next + q.due ≤ length block

-- Where it stands in the block: due entries from `next` on; frozen entries from the front, the unfrozen after them; the
-- noted from the end downwards, so that the oldest is last.
abbrev pub queued : Queue → List Entry → Queued
queued q block = record {
  noted = reverse (drop (length block - q.noted) block);
  unfrozen = take q.unfrozen (drop q.frozen block);
  frozen = take q.frozen block;
  due = records (take q.due (drop q.next block));
}

-- nothing is held
abbrev pub empty : Queued
empty = record { noted = []; unfrozen = []; frozen = []; due = [] }

-- Nothing is due, and the block has room for all that the numbers count and for n entries more.
abbrev pub has_room : ℕ → Queue → List Entry → Bool
has_room n q block = q.due == 0 && nat_le (q.frozen + q.unfrozen + q.noted + n) (length block)

-- what is frozen can become due: nothing is unfrozen
abbrev pub can_hand : Queue → List Entry → Bool
can_hand q block = q.unfrozen == 0 && has_room 0 q block

-- how many places there are
abbrev pub places : ℕ
places = 4294967296

-- n rows have places from j on, and room
abbrev pub can_note : (j n : ℕ) → Queue → List Entry → Bool
can_note j n q block = nat_le (j + n) places && has_room n q block

-- A batch of n rows from place j on can leave: nothing is unfrozen, its rows have places, and there is room for what can come
-- of it besides the rows noted, of which the `keep` latest stay.
abbrev pub can_leave : Bool → (j n keep : ℕ) → Queue → List Entry → Bool
can_leave full j n keep q block = q.unfrozen == 0 && (nat_le (j + n) places && has_room (cond full (n - (q.noted - keep)) 0) q block)

-- What a call makes of the numbers and the block: where the step is possible it is made; elsewhere it is refused, and
-- nothing changes.
pub record Step (possible : Bool) (step : Queued → Queued) (q : Queue) (block : List Entry) (answer : Result (Unit {0}) Refused) (q' : Queue) (block' : List Entry) : Type 0 where
  pub answers : is_ok answer ≡ possible
  pub made : possible ≡ true → queued q' block' ≡ step (queued q block)
  pub stays : possible ≡ false → (q' ≡ q) × (block' ≡ block)
  pub roomy : Roomy q block → Roomy q' block'

-- the next due record
abbrev pub next_of : List Record → Option Record
next_of [] = None
next_of (x ∷ l) = Some x

-- one due record is handed over
abbrev pub handed : Queued → Queued
handed q = record { noted = q.noted; unfrozen = q.unfrozen; frozen = q.frozen; due = drop 1 q.due }

-- entries more that are not frozen yet
abbrev pub pushed : List Entry → Queued → Queued
pushed es q = record { noted = q.noted; unfrozen = q.unfrozen ++ es; frozen = q.frozen; due = q.due }

abbrev pub lone_rows : Kind → ℕ → ℕ → List Entry
lone_rows kind j zero = []
lone_rows kind j (suc n) = lone (buffered_alone kind j) ∷ lone_rows kind (suc j) n

-- n buffered rows, from place j on, are noted
abbrev pub noting : Kind → ℕ → ℕ → Queued → Queued
noting kind j n q = record { noted = q.noted ++ lone_rows kind j n; unfrozen = q.unfrozen; frozen = q.frozen; due = q.due }

-- the unfrozen freeze, and the noted stay where they are
abbrev pub freeze : (Reading → Reading → Bool) → Queued → Queued
freeze asks q = record { noted = q.noted; unfrozen = []; frozen = q.frozen ++ judged_all asks q.unfrozen; due = q.due }

-- freezing all puts the noted buffered rows first, then the unfrozen
abbrev pub freeze_all : (Reading → Reading → Bool) → Queued → Queued
freeze_all asks q = record { noted = []; unfrozen = []; frozen = q.frozen ++ (q.noted ++ judged_all asks q.unfrozen); due = q.due }

-- what is frozen is handed over as it is: lone rows and passing pairs
abbrev pub release : Queued → Queued
release q = record { noted = q.noted; unfrozen = q.unfrozen; frozen = []; due = records (passing q.frozen) }

-- what is frozen is corrected and handed over
abbrev pub correct : Kind → Queued → Queued
correct kind q = record { noted = q.noted; unfrozen = q.unfrozen; frozen = []; due = records (corrected kind false q.frozen) }

-- the row has pairs, and none of them passed
abbrev pub all_failed : Option FilterState → Bool
all_failed None = false
all_failed (Some Unvisited) = false
all_failed (Some AllFailed) = true
all_failed (Some SomePassed) = false

-- A batch leaves, with `n` rows from place j on, whose states are given: its noted rows, all but the `keep` latest noted,
-- then, in a full join, its rows whose pairs all failed, no more than it has rows that are not noted.
abbrev pub leave : Kind → Bool → (j n keep : ℕ) → List FilterState → Queued → Queued
leave kind full j n keep states q = record {
  noted = drop (length q.noted - keep) q.noted;
  unfrozen = q.unfrozen;
  frozen = q.frozen ++ (take (length q.noted - keep) q.noted ++ cond full (take (n - (length q.noted - keep)) (failed kind j states)) []);
  due = q.due;
}
