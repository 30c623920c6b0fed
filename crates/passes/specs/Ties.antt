-- A page holds what a session's step has come to.
-- Assumes nothing.
use Rattle.std.specs.Prelude.{ℕ, ◌≡◌, List, [], ◌∷◌, ◌++◌, length}
use Rattle.basis.specs.Parts.{replaced}
use Rattle.states.specs.declared.Delivery.{Delivery}
use Rattle.states.specs.Steps.{Out}
use Rattle.requests.specs.Sending.{words_of}
use Rattle.members.specs.Codes.{state_of}
use Rattle.passes.specs.Pages.{Page}

-- deliveries as words, one after the other
unfoldable pub all_words : List Delivery → List ℕ
all_words [] = []
all_words (d ∷ ds) = words_of d ++ all_words ds

-- the state of the session, the number of deliveries, and their words at the front of the buffer; later words stay
pub record Shows (o : Out) (g : Page) (old : List ℕ) : Type 0 where
  pub state : g.progress.state ≡ state_of o.session
  pub count : g.progress.sent ≡ length o.sent
  pub words : g.words ≡ replaced 0 (all_words o.sent) old
