use Rattle.std.proofs.Common.{sym, arith}
use Rattle.std.proofs.lemmas.List.{length-take-le}
use Rattle.codec.proofs.line_tests.zeros_are_written_as_masks.Goals as goal

pub slice_bounds-copy_from_slice-end-2 : goal.slice_bounds-copy_from_slice-end-2
slice_bounds-copy_from_slice-end-2 g c = sym (length-take-le 12 c.written.new.line (omega (arith, c.written.auto.line, c.written.array_long)))

pub copy_from_slice-requires : goal.copy_from_slice-requires
copy_from_slice-requires g c = sym (length-take-le 12 c.written.new.line (omega (arith, c.written.auto.line, c.written.array_long)))
