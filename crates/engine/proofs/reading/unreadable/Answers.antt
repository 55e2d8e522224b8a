use mathlib.Core.Path.{sym}
use Rattle.semantics.specs.Image.{image_rules}
use Rattle.engine.proofs.Refusals.{plan_refuses, plan_accepts, image_11}
use Rattle.engine.proofs.reading.unreadable.Goals as goal

pub returns-in-Err : goal.returns-in-Err
returns-in-Err c =
    let a = c.args in plan_refuses a.plan.now (image_rules a.plan.now a.image.now) a.checked _ c.requires.checked_value c.in-Err.is

pub returns-in-Ok : goal.returns-in-Ok
returns-in-Ok c =
    let a = c.args in
    sym (image_11 a.plan.now a.image.now (plan_accepts a.plan.now a.checked _ c.requires.checked_value c.in-Ok.is) c.requires.fact)
