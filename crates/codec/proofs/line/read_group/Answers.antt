use Rattle.std.proofs.Common.{sym, ◌∙◌, subst, arith, rules}
use Rattle.codec.specs.Demapping.{GroupRead}
use Rattle.codec.proofs.Groups.{passed_is, words_read, words_written}
use Rattle.codec.proofs.line.read_group.Goals as goal

pub returns-in_err-low : goal.returns-in_err-low
returns-in_err-low g c =
    let six = c.args.group.now in
    subst (GroupRead _ six) (sym c.from_residual.ensures) (λ d h e. c.in_err-low.ensures.word_of_the_pair _ (omega arith) ((words_written _ six d e).0 ∙ sym (passed_is six 0 (search rules) (search rules))))

pub returns-in_err-middle : goal.returns-in_err-middle
returns-in_err-middle g c =
    let six = c.args.group.now in
    subst (GroupRead _ six) (sym c.from_residual-in_err-middle.ensures) (λ d h e. c.in_err-middle.ensures.word_of_the_pair _ (omega arith) ((words_written _ six d e).1 ∙ sym (passed_is six 1 (search rules) (search rules))))

pub returns-in_err-high : goal.returns-in_err-high
returns-in_err-high g c =
    let six = c.args.group.now in
    subst (GroupRead _ six) (sym c.from_residual-in_err-high.ensures) (λ d h e. c.in_err-high.ensures.word_of_the_pair _ (omega arith) ((words_written _ six d e).2 ∙ sym (passed_is six 2 (search rules) (search rules))))

pub returns : goal.returns
returns g c =
    let six = c.args.group.now in
    let low = c.in_ok-low.ensures.word_of_the_pair in
    let middle = c.in_ok-middle.ensures.word_of_the_pair in
    let high = c.in_ok-high.ensures.word_of_the_pair in
    rw (c.from.ensures, c.from-2.ensures, c.from-3.ensures) (
      omega (arith, low.0, middle.0, high.0),
      words_read (g.L.LineCode.pair c.args.line_code.now) six _ _ _ c.told-group low.0 middle.0 high.0
          (low.1 ∙ passed_is six 0 (search rules) (search rules)) (middle.1 ∙ passed_is six 1 (search rules) (search rules)) (high.1 ∙ passed_is six 2 (search rules) (search rules)),
    )
