use Rattle.std.proofs.Common.{◌≡◌, ◌+◌, ◌*◌, ◌∙◌, sym, get_or, arith}
use Rattle.states.specs.Steps.{lifecycle}
use Rattle.requests.specs.Phases.{phase_said}
use Rattle.requests.proofs.Table.{table, rule, last}
use Rattle.requests.proofs.outside.Goals as goal

pub returns-in-0 : goal.returns-in-0
returns-in-0 c = sym c.in-0.is ∙ rw (c.row.ensures, c.column.ensures) (rule c.args.q c.args.p)

pub returns-in-20 : goal.returns-in-20
returns-in-20 c = sym c.in-20.is ∙ rw (c.row.ensures, c.column.ensures) (rule c.args.q c.args.p)

pub returns-in-22 : goal.returns-in-22
returns-in-22 c = sym c.in-22.is ∙ rw (c.row.ensures, c.column.ensures) (rule c.args.q c.args.p)

pub returns-in-23 : goal.returns-in-23
returns-in-23 c = sym c.in-23.is ∙ rw (c.row.ensures, c.column.ensures) (rule c.args.q c.args.p)

pub returns-in_default : goal.returns-in_default
returns-in_default c =
    let e : get_or table (c.row.result * 5 + c.column.result) 0 ≡ lifecycle c.args.q (phase_said c.args.p) = rw (c.row.ensures, c.column.ensures) (rule c.args.q c.args.p) in
    last c.args.q c.args.p (omega (arith, e)) (omega (arith, e)) (omega (arith, e)) (omega (arith, e))
