-- What a step has come to: the state, how many deliveries are sent, and the words of the buffer; and each pass over members.
-- Assumes nothing.
use Rattle.std.specs.Prelude.{ℕ, ◌+◌, ◌*◌, ◌≤◌, Bool, List, eqb, length, get_or, Option, Some, None}
use Rattle.basis.specs.Choice.{pick, both}
use Rattle.basis.specs.Parts.{replaced}
use Rattle.tags.specs.declared.Tag.{Tag}
use Rattle.tags.specs.declared.Tag.TheVariants.{Never}
use Rattle.states.specs.declared.MemberState.{MemberState}
use Rattle.states.specs.declared.State.{State}
use Rattle.states.specs.declared.Delivery.{Delivery}
use Rattle.states.specs.declared.Delivery.TheVariants.{Started, Grant, Idle, Suppress, Failed}
use Rattle.states.specs.Records.{record_at, with_record}
use Rattle.states.specs.Sessions.{or_never}
use Rattle.states.specs.Rules.{due, revision_of}
use Rattle.states.specs.Steps.{every, confirmed}
use Rattle.rows.specs.Rows.{members, downstream_target, downstream_first, downstream_count}
use Rattle.rows.specs.Loops.{over_rows, over_all}
use Rattle.requests.specs.Sending.{words_of}
use Rattle.records.specs.Records.{plainly, granted_record, bounded_record, rested_record, idle_due, bound_due}
use Rattle.members.specs.Codes.{AllHold}
use Rattle.members.specs.Rules.{AllLow, tags_to, earliest_at, completed_at, horizon_in, bounds_in}
use Rattle.passes.specs.declared.Progress.{Progress}
use Rattle.passes.specs.declared.Told.{Told}

-- a step so far, and the words of the buffer
pub record Page : Type 0 where
  pub progress : Progress
  pub words : List ℕ

abbrev pub on : Progress → List ℕ → Page
on p ws = record { progress = p; words = ws }

-- one delivery more, in the seven words after those sent
abbrev pub posting : Page → Delivery → Page
posting g d = record { progress = record { state = g.progress.state; sent = g.progress.sent + 1 }; words = replaced (7 * g.progress.sent) (words_of d) g.words }

-- one record replaced, and one delivery more
abbrev pub telling : Page → ℕ → MemberState → Delivery → Page
telling g i m d = record { progress = record { state = with_record g.progress.state i m; sent = g.progress.sent + 1 }; words = replaced (7 * g.progress.sent) (words_of d) g.words }

-- what member j is told, if anything
abbrev pub told : Page → ℕ → Option Told → Page
told g j None = g
told g j (Some t) = telling g j t.member t.delivery

-- ---- grants
abbrev pub grant_to : Page → ℕ → MemberState → Tag → Page
grant_to g j m h = pick (due m.publication (plainly m) h) (telling g j (granted_record m (revision_of m.publication) h) (Grant j (revision_of m.publication) h)) g

abbrev pub grant_at : List ℕ → List Tag → List Tag → Page → ℕ → Page
grant_at b es ds g j = grant_to g j (record_at g.progress.state j) (horizon_in b es ds (or_never (record_at g.progress.state j).granted) j)

-- the member that downstream row k names
unfoldable pub grant_by : List ℕ → List Tag → List Tag → Page → ℕ → Page
grant_by b es ds g k = grant_at b es ds g (downstream_target b k)

-- Then grants, asker first, then its downstream.
unfoldable pub grants_in : List ℕ → List Tag → List Tag → Page → ℕ → Page
grants_in b es ds g i = over_rows (grant_by b es ds) (downstream_first b i) (downstream_count b i) (grant_at b es ds g i)

-- ---- Idle
-- no event, that revision confirmed, no tag
abbrev pub resting : MemberState → Bool
resting m = both (confirmed m.publication m.asked) (eqb m.held 0)

abbrev pub rest_at : State → ℕ → Bool
rest_at s k = resting (record_at s k)

abbrev pub stopped_at : State → ℕ → Bool
stopped_at s k = (record_at s k).stopped

abbrev pub idle_to : Page → ℕ → MemberState → Page
idle_to g j m = pick (idle_due (plainly m)) (telling g j (rested_record m (revision_of m.publication)) (Idle j (revision_of m.publication))) g

abbrev pub idle_at : Page → ℕ → Page
idle_at g j = idle_to g j (record_at g.progress.state j)

-- ---- bounds
abbrev pub bound_to : Page → ℕ → MemberState → Tag → Page
bound_to g j m t = pick (bound_due (plainly m) t) (telling g j (bounded_record m t) (Suppress j t)) g

abbrev pub bound_at : List Tag → Page → ℕ → Page
bound_at bs g j = bound_to g j (record_at g.progress.state j) (get_or bs j Never)

-- ---- to all
abbrev pub start_at : Page → ℕ → Page
start_at g k = posting g (Started k)

abbrev pub fail_at : ℕ → ℕ → Page → ℕ → Page
fail_at cause code g k = posting g (Failed k cause code)

-- ---- what follows a request
-- Then Idle, if every member is at rest; then bounds, of which there are none where Idle goes out
unfoldable pub settled_in : List Tag → ℕ → Page → Page
settled_in bs n g = pick (every (rest_at g.progress.state) n) (over_all idle_at n g) (over_all (bound_at bs) n g)

unfoldable pub earliests_in : List ℕ → List ℕ → Page → List Tag
earliests_in b slab g = tags_to (earliest_at g.progress.state slab) (members b)

unfoldable pub completeds_in : List ℕ → Page → List Tag
completeds_in b g = tags_to (completed_at g.progress.state) (members b)

unfoldable pub follow_in : List ℕ → List ℕ → Page → ℕ → Page
follow_in b slab g i =
    settled_in (bounds_in b (earliests_in b slab g) (members b)) (members b)
    (grants_in b (earliests_in b slab g) (completeds_in b g) g i)

-- a state whose tags can be read, with offsets of at most L
pub record Ready (s : State) (slab : List ℕ) (n : ℕ) : Type 0 where
  pub room : 64 * n ≤ length slab
  pub holds : AllHold s slab n
  pub earliests : AllLow (tags_to (earliest_at s slab) n)
  pub completeds : AllLow (tags_to (completed_at s) n)
