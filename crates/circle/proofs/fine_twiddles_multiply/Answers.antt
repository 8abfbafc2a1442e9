use Rattle.circle.proofs.Fine.{fine_product}
use Rattle.circle.proofs.fine_twiddles_multiply.Goals as goal

pub returns : goal.returns
returns c = fine_product
