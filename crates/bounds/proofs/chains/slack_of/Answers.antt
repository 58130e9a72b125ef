use Rattle.std.proofs.Common.{refl, w64, arith}
use mir.ValLaws.{to_z_pos}
use Rattle.bounds.specs.SlackLaws.{mag_less, word_less}
use Rattle.bounds.proofs.chains.slack_of.Goals as goal

pub overflow_sub-result : goal.overflow_sub-result
overflow_sub-result c =
    rw (to_z_pos w64 c.args.deadline (omega arith), to_z_pos w64 c.args.bound (omega arith))
    (record { sfits = grind (arith, mag_less) })

pub returns : goal.returns
returns c =
    rw (to_z_pos w64 c.args.deadline (omega arith), to_z_pos w64 c.args.bound (omega arith))
    (word_less c.args.deadline c.args.bound _ c.requires.0 c.requires.1 refl)
