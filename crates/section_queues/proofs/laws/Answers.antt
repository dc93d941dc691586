-- Each law is proved beside the definitions that it speaks of. The worked starts are cited, so that they are checked.
use Rattle.section_queues.proofs.Ready.{some-lane}
use Rattle.section_queues.proofs.Starting.{starts-lane, starts-settled}
use Rattle.section_queues.proofs.Sweeping.{hopeless-left}
use Rattle.section_queues.proofs.Worked.{worked}
use Rattle.section_queues.proofs.laws.Goals as goal

pub returns : goal.returns
returns c = let rows = worked in record { some_lane = some-lane; own_lane = starts-lane; after_settled = starts-settled; marking = hopeless-left }
