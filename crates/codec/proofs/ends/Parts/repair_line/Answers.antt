use Rattle.std.proofs.Common.{subst}
use Rattle.std.proofs.lemmas.Result.{err_from_is_err_and}
use Rattle.code.specs.Outcomes.{Astray, Repaired}
use Rattle.codec.specs.Calls.{parts_end}
use Rattle.codec.proofs.Nearness.{repairs, none_near_many, none_near_astray}
use Rattle.codec.proofs.ends.Parts.repair_line.Goals as goal

pub returns-in_err-decode-clause-near_or_none : goal.returns-in_err-decode-clause-near_or_none
returns-in_err-decode-clause-near_or_none g c =
    let parts = c.args.self.now in
    let end = parts_end g.A.Arithmetic.field g.S.Stream.mask g.L.LineCode.pair parts in
    let p = err_from_is_err_and c.from_residual.result c.from_residual.ensures.1 in
    rw p.1 (none_near_astray end (g.met.L.LineCode.distinct parts.line_code) (g.met.S.Stream.bounded parts.stream) c.args.line.now c.read_line-received.result.symbols c.read_line-received.ensures.demapped _ c.fill_erasures-word.ensures (subst (λ f. Astray f c.fill_erasures-word.result.symbols) c.read_line-received.ensures.stands_later.arithmetic c.in_err-decode.ensures.none_within_reach))

pub returns-in_err-places-clause-near_or_none : goal.returns-in_err-places-clause-near_or_none
returns-in_err-places-clause-near_or_none g c =
    let parts = c.args.self.now in
    let end = parts_end g.A.Arithmetic.field g.S.Stream.mask g.L.LineCode.pair parts in
    let p = err_from_is_err_and c.from_residual-in_err-places.result c.from_residual-in_err-places.ensures.1 in
    rw p.1 (none_near_many end (g.met.L.LineCode.distinct parts.line_code) (g.met.S.Stream.bounded parts.stream) c.args.line.now c.read_line-received.result.symbols c.read_line-received.ensures.demapped _ c.fill_erasures-word.ensures _ _ (subst (λ f. Repaired f c.fill_erasures-word.result.symbols c.decode.new.word.symbols c.in_ok-decode.field-0) c.read_line-received.ensures.stands_later.arithmetic c.in_ok-decode.ensures.codeword_within_reach) c.in_err-places.ensures)

pub returns-clause-near_or_none : goal.returns-clause-near_or_none
returns-clause-near_or_none g c =
    let parts = c.args.self.now in
    let end = parts_end g.A.Arithmetic.field g.S.Stream.mask g.L.LineCode.pair parts in
    repairs end (g.met.L.LineCode.distinct parts.line_code) (g.met.S.Stream.bounded parts.stream) c.args.line.now c.read_line-received.result.symbols c.read_line-received.ensures.demapped _ c.fill_erasures-word.ensures _ _ _ (subst (λ f. Repaired f c.fill_erasures-word.result.symbols c.decode.new.word.symbols c.in_ok-decode.field-0) c.read_line-received.ensures.stands_later.arithmetic c.in_ok-decode.ensures.codeword_within_reach) c.in_ok-places.ensures
