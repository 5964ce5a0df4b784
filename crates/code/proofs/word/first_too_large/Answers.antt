use Rattle.std.proofs.Common.{max, arith, rules}
use borrow.Author.Tests.{tests}
use Rattle.std.proofs.lemmas.Iterator.{YieldsList-from_slice}
use Rattle.std.proofs.lemmas.Iterator.Consumers.{fold_from_yields_List}
use Rattle.code.proofs.Filled.{largest_below}
use Rattle.code.proofs.word.first_too_large.Goals as goal

pub returns-then-from-lt-ELEMENTS : goal.returns-then-from-lt-ELEMENTS
returns-then-from-lt-ELEMENTS c =
    let word = c.args.symbols.now in
    let made = fold_from_yields_List _ (λ most symbol. max symbol most) 0 _ c.fold-largest.ensures.ran (YieldsList-from_slice word cc) (λ most x b q k. search (rules, tests)) in
    λ k h. largest_below word 0 512 (omega (arith, made, c.if-from-lt-ELEMENTS.true)) k (omega arith)
