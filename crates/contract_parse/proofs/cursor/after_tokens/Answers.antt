use Rattle.std.proofs.Common.{◌≡◌, ℕ, false, sym, ap, subst, ◌∙◌, arith}
use Rattle.std.proofs.lemmas.Bool.{false≢true}
use Rattle.contract_grammar.specs.Tokens.{is_last}
use Rattle.contract_parse.specs.Cursors.{NextToken, Position}
use Rattle.contract_parse.proofs.LinePositions.{fits_at}
use Rattle.contract_parse.proofs.TokenOrder.{IsAhead, ahead_ends, ahead_on, ahead_stops}
use Rattle.contract_parse.proofs.cursor.after_tokens.Goals as goal
use Rattle.contract_parse.proofs.cursor.after_tokens.Goals.{then-stop-span-via-then-stop-span, then-stop-span-via-else-stop-span+then-is_last}

pub returns-then-stop-span-clause-passed : goal.returns-then-stop-span-clause-passed
returns-then-stop-span-clause-passed c before last next rest is stands =
    let here : c.cursor.inside.at ≡ c.loop-span.cursor.at = ap (λ (p : Position). p.at) c.cursor.view_is in
    let span = c.next_span-span.result in
    let found = subst (λ (n : ℕ). NextToken c.args.bytes.now n span.kind span.from span.to) here c.next_span-span.ensures.next in
    let ahead = c.loop-span.invariant.ahead before last next rest is stands in
    elim c.then-stop-span.branch [
      | then-stop-span-via-then-stop-span w ↦
          ahead_stops c.args.bytes.now c.loop-span.cursor.at span.kind span.from span.to last next rest found (omega (arith, stands, w.if-stop-span.true)) ahead
      | then-stop-span-via-else-stop-span+then-is_last w ↦
          ahead_ends c.args.bytes.now c.loop-span.cursor.at span.kind span.from span.to last next rest found (sym w.is_last.ensures ∙ w.if-is_last.true) ahead
    ]

pub loop-span-preserved : goal.loop-span-preserved
loop-span-preserved c =
    let here : c.cursor.inside.at ≡ c.loop-span.cursor.at = ap (λ (p : Position). p.at) c.cursor.view_is in
    let span = c.next_span-span.result in
    let found = subst (λ (n : ℕ). NextToken c.args.bytes.now n span.kind span.from span.to) here c.next_span-span.ensures.next in
    let more : is_last span.kind ≡ false = sym c.is_last.ensures ∙ c.if-is_last.false in
    let utf8 = c.loop-span.invariant.fits.utf8 in
    let boundary = c.next_span-span.ensures.boundary utf8 (λ stray. false≢true (sym more ∙ ap is_last stray)) in
    record {
      fits = fits_at c.args.bytes.now span.to c.moved-cursor.result c.moved-cursor.ensures utf8 boundary;
      ahead = λ before last next rest is stands.
          let on = ahead_on c.args.bytes.now c.loop-span.cursor.at span.kind span.from span.to last next rest found more (omega (arith, stands, c.if-stop-span.false)) (c.loop-span.invariant.ahead before last next rest is stands) in
          subst (λ (n : ℕ). IsAhead c.args.bytes.now last next rest n) (sym (ap (λ (p : Position). p.at) c.moved-cursor.ensures)) on;
    }
