use Rattle.std.proofs.Common.{arith, ◌∙◌}
use Rattle.std.proofs.lemmas.Grind.{common_steps}
use Rattle.states.specs.Steps.{kind_refusal}
use Rattle.rows.specs.Nets.{net_in}
use Rattle.members.specs.Codes.{session_of}
use Rattle.kinds.proofs.Tests.{ruled, passes-on}
use Rattle.kinds.proofs.Ties.{table_is, kind-is}
use Rattle.kinds.proofs.Session.known_refusal.Goals as goal

pub returns-in_err-outside : goal.returns-in_err-outside
returns-in_err-outside c =
    let h = ruled c.in_err-outside.field-0.0 _ (kind_refusal (net_in c.args.self.plan.now) (session_of c.args.self.state.now c.args.self.slab.now) c.args.i c.args.q) (table_is _ c.args.self.fits.laid c.args.self.state.now _ c.args.self.fits.room c.args.self.fits.formed c.args.i _ _ c.args.q _ c.requires c.members.ensures c.phase.ensures c.in_err-outside.ensures) in
    grind (arith, common_steps)

pub returns : goal.returns
returns c = passes-on _ _ _ (table_is _ c.args.self.fits.laid c.args.self.state.now _ c.args.self.fits.room c.args.self.fits.formed c.args.i _ _ c.args.q _ c.requires c.members.ensures c.phase.ensures c.in_ok-outside.ensures)
    (c.kind_refusal.ensures ∙ kind-is _ c.args.self.fits.laid c.args.self.state.now _ c.args.self.fits.room c.args.self.fits.formed c.args.i c.args.q c.requires)
