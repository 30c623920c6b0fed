use Rattle.std.proofs.Common.{◌≡◌, ℕ, Bool, true, false, Option, Some, None, ◌&&◌, refl, eqb}
use Rattle.basis.specs.Choice.{both}
use Rattle.tags.specs.declared.Tag.{Tag}
use Rattle.states.specs.declared.Publication.{Publication}
use Rattle.states.specs.declared.MemberState.{MemberState}
use Rattle.states.specs.Records.{blank_record}
use Rattle.states.specs.contracts.MemberStatePartialEq.TheImpl.{eq-value}
use Rattle.members.specs.Formed.{is_blank, bare, unmarked}
use Rattle.members.proofs.is_blank.Goals as goal

no_more : (b : Bool) → both b false ≡ false
no_more true = refl
no_more false = refl

not_both : (b : Bool) → (b && false) ≡ false
not_both true = refl
not_both false = refl

held : (b : Bool) → (b && true) ≡ both b true
held true = refl
held false = refl

same : (j : Bool) (p : Option Publication) (v : Option ℕ) (g b c : Option Tag) (h : ℕ) (a i : Option ℕ) (s : Bool)
    → (λ (m : MemberState). eq-value.it m blank_record ≡ is_blank m) (record { joined = j; publication = p; revision = v; granted = g; bound = b; completed = c; held = h; asked = a; idle = i; stopped = s })
unfolding is_blank bare unmarked
same true p v g b c h a i s = refl
same false (Some p) v g b c h a i s = simp (no_more, not_both)
same false None (Some r) g b c h a i s = simp (no_more, not_both)
same false None None (Some t) b c h a i s = simp (no_more, not_both)
same false None None None (Some t) c h a i s = simp (no_more, not_both)
same false None None None None (Some t) h a i s = simp (no_more, not_both)
same false None None None None None h (Some r) i s = simp (no_more, not_both)
same false None None None None None h None (Some r) s = simp (no_more, not_both)
same false None None None None None h None None true = simp (no_more, not_both)
same false None None None None None h None None false = held (eqb h 0)

pub returns : goal.returns
returns c = let m = c.args.m in let e = same m.joined m.publication m.revision m.granted m.bound m.completed m.held m.asked m.idle m.stopped in cc
