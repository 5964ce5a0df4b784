use Rattle.std.proofs.Common.{arith}
use borrow.Rule.Slice.PartMut.{put_mid}
use Rattle.code.specs.Outcomes.{Completed}
use Rattle.code.proofs.Completion.{completed}
use Rattle.code.proofs.code.Code.encode.Given.{Over}
use Rattle.code.proofs.code.Code.encode.Goals.{After-copy_from_slice}
use Rattle.code.proofs.code.Code.encode.Goals as goal

-- the remainder, copied over the end of the word, completes it
copy_completes : (g : Over) (c : After-copy_from_slice g) → Completed (g.A.Arithmetic.field c.args.self.now.arithmetic) c.args.word.now.symbols (put_mid 406 44 c.args.word.now.symbols c.copy_from_slice.new.self)
copy_completes g c =
    let w = c.args.word.now in
    completed (g.met.A.Arithmetic.lawful c.args.self.now.arithmetic) w.symbols c.divide-register.result _ 44 (omega (arith, w.elements.full)) w.elements (omega arith) c.divide-register.ensures.small c.divide-register.ensures.worth c.copy_from_slice.ensures.after

pub invariant_of-word : goal.invariant_of-word
invariant_of-word g c = record { elements = (copy_completes g (goal.at.invariant_of-word g c).After-copy_from_slice).codeword.word }

pub returns : goal.returns
returns g c = record { codeword_of_its_message = copy_completes g (goal.at.returns g c).After-copy_from_slice }
