-- Earliest, horizon, bound, and when a grant is due. A rule reads the members as a function of their position.
-- Assumes nothing.
use Rattle.std.specs.Prelude.{ℕ, zero, suc, Bool, true, false, ltb, eqb, Option, Some, None}
use Rattle.basis.specs.Choice.{pick, not, both, either}
use Rattle.tags.specs.declared.Tag.{Tag}
use Rattle.tags.specs.declared.Tag.TheVariants.{Never, Forever}
use Rattle.tags.specs.Tags.{tag_le, tag_before, least_of, greatest_of, delayed, pred_of, less_of}
use Rattle.plans.specs.Nets.{Net, none, downstream}
use Rattle.transit.specs.Tags.{first_of}
use Rattle.states.specs.declared.Publication.{Publication}
use Rattle.states.specs.Sessions.{Member, or_never}

abbrev pub is_set : Option ℕ → Bool
is_set None = false
is_set (Some r) = true

abbrev pub mark_is : Option ℕ → ℕ → Bool
mark_is None r = false
mark_is (Some q) r = eqb q r

-- neither idle nor stopped
abbrev pub active : Member → Bool
active m = both (not (is_set m.idle)) (not m.stopped)

-- the least of f 0 .. f (k - 1); an empty least is FOREVER
unfoldable pub least_to : ℕ → (ℕ → Tag) → Tag
least_to zero f = Forever
least_to (suc k) f = least_of (least_to k f) (f k)

-- none FOREVER
abbrev pub expected : Option Tag → Tag
expected None = Forever
expected (Some t) = t

-- unpublished NEVER, none FOREVER
abbrev pub awaited : Option Publication → Tag
awaited None = Never
awaited (Some p) = expected p.next

-- Earliest: least of the publication and the first in-transit tag.
unfoldable pub earliest : Member → Tag
earliest m = least_of (awaited m.publication) (first_of m.transit)

-- x over a way of delay d; where there is none, it asks nothing
unfoldable pub over : ℕ → Tag → Tag
over d x = pick (ltb d none) (delayed x d) Forever

-- x completed over a way of delay d: delayed, its predecessor if the delay is positive
unfoldable pub past : ℕ → Tag → Tag
past d x = pick (ltb d none) (pick (eqb d 0) x (pred_of (delayed x d))) Forever

-- (a) predecessor of the least earliest-plus-minimum-delay over transitive sources
abbrev pub coming : Net → (ℕ → Member) → ℕ → ℕ → Tag
coming p v j i = over (p.minimum i j) (earliest (v i))

unfoldable pub arrivals : Net → (ℕ → Member) → ℕ → Tag
arrivals p v j = pred_of (least_to p.count (coming p v j))

-- (b) least over direct sources of completed delayed, its predecessor if the delay is positive
abbrev pub done : Net → (ℕ → Member) → ℕ → ℕ → Tag
done p v j i = past (p.direct i j) (or_never (v i).completed)

unfoldable pub completions : Net → (ℕ → Member) → ℕ → Tag
completions p v j = least_to p.count (done p v j)

-- Horizon: greatest of (a), (b) and (c) granted
unfoldable pub horizon : Net → (ℕ → Member) → ℕ → Tag
horizon p v j = greatest_of (greatest_of (arrivals p v j) (completions p v j)) (or_never (v j).granted)

-- Granted if an event is published, neither idle nor stopped, horizon not before the event, and the revision is new or the horizon grows.
abbrev pub due_at : ℕ → Option Tag → Member → Tag → Bool
due_at r None m h = false
due_at r (Some e) m h = both (active m) (both (tag_le e h) (either (not (mark_is m.revision r)) (tag_before (or_never m.granted) h)))

unfoldable pub due : Option Publication → Member → Tag → Bool
due None m h = false
due (Some p) m h = due_at p.revision p.next m h

abbrev pub revision_of : Option Publication → ℕ
revision_of None = 0
revision_of (Some p) = p.revision

-- least, over downstream members, of their earliest less the minimum delay to them
unfoldable pub bound_of : Net → (ℕ → Member) → ℕ → Tag
bound_of p v i = least_to p.count (λ j. pick (downstream p i j) (less_of (earliest (v j)) (p.minimum i j)) Forever)

-- sent if it drops below the last sent, or rises and an event not after it is published
abbrev pub useful_for : Option Tag → Tag → Tag → Bool
useful_for None old new = tag_before new old
useful_for (Some e) old new = either (tag_before new old) (both (tag_before old new) (tag_le e new))

unfoldable pub useful : Option Publication → Tag → Tag → Bool
useful None old new = false
useful (Some p) old new = useful_for p.next old new
