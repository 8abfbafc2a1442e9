use Rattle.stages.proofs.Counting.{stages2, stages4}
use Rattle.stages.proofs.radix.stage_count.Goals as goal

pub returns-in-Radix2 : goal.returns-in-Radix2
returns-in-Radix2 c =
    let p = c.args.plan.now in
    stages2 p.method p.size c.size.result c.in-Radix2.ensures c.size.ensures p.size_lawful

pub returns-in-Radix4 : goal.returns-in-Radix4
returns-in-Radix4 c =
    let p = c.args.plan.now in
    stages4 p.method p.size c.size-in-Radix4.result c.in-Radix4.ensures c.size-in-Radix4.ensures p.size_lawful
