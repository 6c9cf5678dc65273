-- `read_asrun`: the rows of a batch's text, or its first fault.
use Rattle.std.proofs.Common.{Bor, List, ℕ, ◌≡◌, ◌+◌, ◌∙◌, Option, Some, sym, refl, ap, subst, rules, arith, inl, inr}
use Rattle.std.proofs.Common.{true, length, []}
use Rattle.std.specs.Prelude.{All}
use Rattle.std.specs.Result.{is_ok}
use Rattle.std.proofs.lemmas.Result.{err_from_is_err_and}
use Rattle.std.proofs.lemmas.List.Elements.{All-push}
use Rattle.csv.proofs.ReadFacts.{rows-end}
use Rattle.csv.specs.Reading.{default_config, strip_bom}
use Rattle.csv.specs.Records.{fields_of}
use Rattle.timecode.specs.Counting.{day_length}
use Rattle.asrun_match.specs.declared.aired.AiredRow.{AiredRow}
use Rattle.asrun_match.specs.Aired.{FitsIn}
use Rattle.asrun_match.specs.Rows.{row_of_record}
use Rattle.asrun_match.proofs.RecordLemmas.{IsLeft, all_taken, at_start, next_of, no_longer, one_number, one_refusal}
use Rattle.asrun_match.proofs.RecordLemmas.{one_row}
use Rattle.asrun_match.proofs.reading.read_asrun.Goals as goal

abbrev known : Bor (List ℕ) → Option (List ℕ)
known s = Some s.now

pub loop-row-init : goal.loop-row-init
loop-row-init c =
    let fr = c.from_reader-reader.ensures in
    let e = c.has_headers.ensures in
    let f = c.flexible.ensures in
    let start = c.into_iter-row-iterator.ensures.into_iter_gives ∙ refl in
    let rdr = c.into_byte_records-row-items.ensures.rdr in
    rw (start, rdr, c.new-rows.ensures.items) (
      rw (f, e) at fr.trim ∙ c.new.ensures.trim,
      inr (inr (rw (f, e) at fr.has_headers, fr.headers)),
      c.into_byte_records-row-items.ensures.left,
      rw (f, e) at fr.config ∙ c.new.ensures.config,
      search rules,
      strip_bom c.args.csv.now,
      fr.source,
      subst (λ s. IsLeft c.args.rate c.args.start (strip_bom c.args.csv.now) [] s (strip_bom c.args.csv.now))
          (sym fr.state) (at_start c.args.rate c.args.start (strip_bom c.args.csv.now)),
    )

pub overflow_cast-number : goal.overflow_cast-number
overflow_cast-number c =
    let inv = c.loop-row.invariant in
    let s = rw (c.in-Some.is, c.in-Ok.is) at ((c.next.ensures.steps inv.2 inv.0).0 inv.1) in
    let n =
    next_of known c.loop-row.row-iterator.rdr c.next.new.self.rdr (fields_of c.in-Ok.fields) inv.5 inv.3 inv.6 s.0
    in
    let less =
    one_number c.args.rate c.args.start (strip_bom c.args.csv.now) c.loop-row.rows.items
    c.loop-row.row-iterator.rdr.state inv.5 (fields_of c.in-Ok.fields, c.next.new.self.rdr.state, n.0) inv.7 n.2 in
    omega (arith, less, no_longer c.args.csv.now, c.requires.bytes, c.len.ensures)

pub overflow_add-number : goal.overflow_add-number
overflow_add-number c =
    let inv = c.loop-row.invariant in
    let s = rw (c.in-Some.is, c.in-Ok.is) at ((c.next.ensures.steps inv.2 inv.0).0 inv.1) in
    let n =
    next_of known c.loop-row.row-iterator.rdr c.next.new.self.rdr (fields_of c.in-Ok.fields) inv.5 inv.3 inv.6 s.0
    in
    let less =
    one_number c.args.rate c.args.start (strip_bom c.args.csv.now) c.loop-row.rows.items
    c.loop-row.row-iterator.rdr.state inv.5 (fields_of c.in-Ok.fields, c.next.new.self.rdr.state, n.0) inv.7 n.2 in
    omega (arith, less, no_longer c.args.csv.now, c.requires.bytes, c.len.ensures)

pub returns-in_err-aired-clause-refused : goal.returns-in_err-aired-clause-refused
returns-in_err-aired-clause-refused c =
    let p = err_from_is_err_and c.from_residual.result c.from_residual.ensures.1 in
    let inv = c.loop-row.invariant in
    let s = rw (c.in-Some.is, c.in-Ok.is) at ((c.next.ensures.steps inv.2 inv.0).0 inv.1) in
    let n =
    next_of known c.loop-row.row-iterator.rdr c.next.new.self.rdr (fields_of c.in-Ok.fields) inv.5 inv.3 inv.6 s.0
    in
    let number : c.len.result + 1 ≡ length c.loop-row.rows.items + 1 = omega (arith, c.len.ensures) in
    rw (p.1, p.2)
    (inr
    (one_refusal c.args.rate c.args.start (strip_bom c.args.csv.now) c.loop-row.rows.items c.in_err-aired.field-0.0
    c.loop-row.row-iterator.rdr.state inv.5
    (fields_of c.in-Ok.fields, c.next.new.self.rdr.state, n.0) inv.7 n.2
    (ap (λ k. row_of_record c.args.rate c.args.start k (fields_of c.in-Ok.fields)) (sym number)
    ∙ sym c.in_err-aired.ensures.row)))

pub loop-row-preserved : goal.loop-row-preserved
loop-row-preserved c =
    let inv = c.loop-row.invariant in
    let s = rw (c.in-Some.is, c.in-Ok.is) at ((c.next.ensures.steps inv.2 inv.0).0 inv.1) in
    let n =
    next_of known c.loop-row.row-iterator.rdr c.next.new.self.rdr (fields_of c.in-Ok.fields) inv.5 inv.3 inv.6 s.0
    in
    let good : is_ok c.push.result ≡ true = search rules in
    let items = rw good at c.push.ensures.items in
    let number : c.len.result + 1 ≡ length c.loop-row.rows.items + 1 = omega (arith, c.len.ensures) in
    let row = c.in_ok-aired.aired in
    let left =
    one_row c.args.rate c.args.start (strip_bom c.args.csv.now) c.loop-row.rows.items row
    c.loop-row.row-iterator.rdr.state inv.5
    (fields_of c.in-Ok.fields, c.next.new.self.rdr.state, n.0) inv.7 n.2
    (ap (λ k. row_of_record c.args.rate c.args.start k (fields_of c.in-Ok.fields)) (sym number)
    ∙ sym c.in_ok-aired.ensures.row) in (
      s.0.3 ∙ inv.0,
      inl s.1,
      s.2,
      s.0.2 ∙ inv.3,
      subst (All (FitsIn (day_length c.args.rate))) (sym items)
          (All-push (FitsIn (day_length c.args.rate)) c.loop-row.rows.items row inv.4 c.in_ok-aired.ensures.fits),
      n.0,
      n.1,
      subst
          (λ (rows : List AiredRow). IsLeft c.args.rate c.args.start (strip_bom c.args.csv.now) rows
          c.next.new.self.rdr.state n.0) (sym items) left,
    )

pub returns-clause-rows : goal.returns-clause-rows
returns-clause-rows c =
    let inv = c.loop-row.invariant in
    let s = rw c.in-None.is at ((c.next.ensures.steps inv.2 inv.0).0 inv.1) in
    all_taken c.args.rate c.args.start (strip_bom c.args.csv.now) c.loop-row.rows.items
    c.loop-row.row-iterator.rdr.state inv.5 inv.7
    (rows-end known c.loop-row.row-iterator.rdr c.next.new.self.rdr [] default_config inv.5 inv.3 inv.6 s)
