use Rattle.blocks.proofs.WorkedBlocks.{one_reading, one_first}
use Rattle.blocks.proofs.NeverBoth.{never_both}
use Rattle.blocks.proofs.laws.block_laws.Goals as goal

pub returns : goal.returns
returns c = record { encodes_one_ten_at_most = one_reading; one_first_invalid_field = one_first; never_encoded_and_invalid = never_both }
