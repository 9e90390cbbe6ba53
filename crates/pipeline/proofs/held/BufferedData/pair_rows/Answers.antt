use Rattle.std.proofs.Common.{◌≡◌, ◌+◌, ◌<◌, ◌≤◌, min, ◌⊎◌, ◌∷◌, length, get_or, take, sym, ap, ◌∙◌, inl, inr, arith, length-take-le}
use Rattle.pipeline.specs.declared.entry.Entry.{Entry}
use Rattle.pipeline.specs.declared.pairing.Position.{Position}
use Rattle.pipeline.specs.Held.{holding, run_at}
use Rattle.pipeline.proofs.Scanning.{pairs, stays, and_on, took, run_at_end, first_within, next_first, scan_row, scan_next, scan_count, scan_written, scan_left}
use Rattle.pipeline.proofs.held.BufferedData.pair_rows.Goals as goal
use Rattle.pipeline.proofs.held.BufferedData.pair_rows.Goals.{then-from-self, else-from-self, then-loop-at-test+then-index-known, else-loop-at-test}

pub overflow_add-index : goal.overflow_add-index
overflow_add-index g c =
    let few : c.scan.first ≤ 16777215 = first_within c.args.self.now c.args.rows.now c.scan.batch c.scan.first c.scan.invariant.0 in
    omega arith

pub overflow_add-first : goal.overflow_add-first
overflow_add-first g c =
    let few : c.scan.first ≤ 16777215 = first_within c.args.self.now c.args.rows.now c.scan.batch c.scan.first c.scan.invariant.0 in
    omega arith

pub loop-at-preserved : goal.loop-at-preserved
loop-at-preserved g c =
    let s = c.args.self.now in
    let rows = c.args.rows.now in
    let b = c.scan.batch in
    let r = c.loop-at.at in
    let i = c.scan.first + r in
    let P = pairs {K = g.row.K.Denot} c.args.kind c.args.row c.args.place c.args.reading in
    let known : i < min (length rows) s.held = omega (arith, c.min-known.ensures, c.if-index-known.false) in
    let room : c.loop-at.count < length c.loop-at.out = omega (arith, c.if-count-out.false, c.loop-at.invariant.0.within) in
    let row = scan_row s rows b c.scan.first c.scan.invariant.0 _ c.scan-test.true r c.index-rows-index.result c.loop-at-test.true known in (
      and_on P c.loop-at.invariant.0
          (took P c.loop-at.out c.loop-at.count (s.base + i, get_or rows i c.index-rows-index.result) c.pair_entry.result (run_at (holding s) b r rows) (run_at (holding s) b (r + 1) rows) room row
          (ap (λ (e : Entry). e ∷ P (run_at (holding s) b (r + 1) rows)) (sym c.pair_entry.ensures))),
      c.loop-at.invariant.1,
    )

pub scan-preserved : goal.scan-preserved
scan-preserved g c =
    let s = c.args.self.now in
    let rows = c.args.rows.now in
    let b = c.scan.batch in
    let r = c.loop-at.at in
    let P = pairs {K = g.row.K.Denot} c.args.kind c.args.row c.args.place c.args.reading in
    let known : c.min-known.result ≡ min (length rows) s.held = c.min-known.ensures in
    let over : ((get_or s.batches b (record { rows = 0; start = 0; end = 0 })).end ≤ r) ⊎ (min (length rows) s.held ≤ c.scan.first + r) =
    elim c.loop-at-test.branch [ then-loop-at-test+then-index-known w ↦ inr (omega (arith, w.if-index-known.true)) | else-loop-at-test w ↦ inl w.loop-at-test.false ] in (
      next_first s rows b c.scan.first c.scan.invariant.0 _ c.scan-test.true,
      and_on P c.scan.invariant.1 (and_on P c.loop-at.invariant.0 (stays P c.loop-at.out c.loop-at.count _ _ c.loop-at.invariant.0.within
          (scan_next s rows b c.scan.first c.scan.invariant.0 _ c.scan-test.true r over))),
      c.loop-at.invariant.1 ∙ c.scan.invariant.2,
    )

pub returns-after-scan : goal.returns-after-scan
returns-after-scan g c =
    let s = c.args.self.now in
    let rows = c.args.rows.now in
    let out = c.args.out.now in
    let n = c.scan.count in
    let from = run_at (holding s) c.args.from.batch c.args.from.row rows in
    let to = run_at (holding s) c.scan.batch c.scan.start rows in
    let len : length (take s.count s.batches) ≡ s.count = length-take-le s.count s.batches (omega arith) in
    let end = run_at_end (holding s) rows c.scan.batch c.scan.start (omega (arith, c.scan-test.false)) in
    let p = c.scan.position in
    let past : s.count ≤ p.batch = elim c.if-from-self.branch [
      | then-from-self w ↦ let e = ap (λ (q : Position). q.batch) (c.scan.invariant.2 ∙ w.position-is) in omega arith
      | else-from-self w ↦ let e = ap (λ (q : Position). q.batch) (c.scan.invariant.2 ∙ w.position-is) in omega arith
    ] in
    record {
      count = scan_count c.args.kind c.args.row c.args.place c.args.reading out c.scan.out n from to c.scan.invariant.1 (inr end);
      written = scan_written c.args.kind c.args.row c.args.place c.args.reading out c.scan.out n from to c.scan.invariant.1;
      behind = elim c.if-from-self.branch [ then-from-self w ↦ λ k. absurd (omega arith) | else-from-self w ↦ λ _. c.scan.invariant.2 ∙ w.position-is ];
      left = run_at_end (holding s) rows p.batch p.row (omega arith) ∙ sym end ∙ scan_left c.args.kind c.args.row c.args.place c.args.reading out c.scan.out n from to c.scan.invariant.1;
    }

pub returns-then-count-out : goal.returns-then-count-out
returns-then-count-out g c =
    let s = c.args.self.now in
    let rows = c.args.rows.now in
    let out = c.args.out.now in
    let n = c.loop-at.count in
    let from = run_at (holding s) c.args.from.batch c.args.from.row rows in
    let to = run_at (holding s) c.scan.batch c.loop-at.at rows in
    let P = pairs {K = g.row.K.Denot} c.args.kind c.args.row c.args.place c.args.reading in
    let goes = and_on P c.scan.invariant.1 c.loop-at.invariant.0 in
    let full : n ≡ length out = c.if-count-out.true ∙ goes.long in
    record {
      count = scan_count c.args.kind c.args.row c.args.place c.args.reading out c.loop-at.out n from to goes (inl full);
      written = scan_written c.args.kind c.args.row c.args.place c.args.reading out c.loop-at.out n from to goes;
      behind = λ k. absurd (omega arith);
      left = scan_left c.args.kind c.args.row c.args.place c.args.reading out c.loop-at.out n from to goes;
    }
