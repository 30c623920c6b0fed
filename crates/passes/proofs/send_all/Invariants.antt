use Rattle.std.proofs.Common.{◌≡◌, ℕ, ◌+◌, ◌<◌}
use Rattle.states.specs.declared.Delivery.{Delivery}
use Rattle.rows.specs.Loops.{over_all}
use Rattle.passes.specs.Pages.{Page, on, posting}
use Rattle.passes.proofs.send_all.Given as goal

abbrev pub invariant-loop-k : goal.invariant-loop-k
invariant-loop-k g l =
    goal.F-IsAlwaysCallable g l.delivery
    × (l.p.sent ≡ l.initial.p.sent + l.k)
    × ((f : Page → ℕ → Page) → ((x : Page) (k : ℕ) (d : Delivery) → k < l.n → goal.F-post g l.delivery k d → posting x d ≡ f x k) → on l.p l.out ≡ over_all f l.k (on l.initial.p l.initial.out))
