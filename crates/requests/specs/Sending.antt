-- The seven words of a delivery.
-- Assumes nothing.
use Rattle.std.specs.Prelude.{ℕ, List, [], ◌∷◌}
use Rattle.tags.specs.declared.Tag.{Tag}
use Rattle.tags.specs.Tags.{words_of as tagWords}
use Rattle.states.specs.declared.Delivery.{Delivery}
use Rattle.states.specs.declared.Delivery.TheVariants.{Started, Grant, Carried, Idle, Stopped, Suppress, Failed}
use Rattle.requests.specs.declared.Sheet.{Sheet}

-- Unused words are 0, unused tags class 3.
abbrev pub plain : ℕ → ℕ → ℕ → ℕ → Sheet
plain i k n x = record { member = i; kind = k; number = n; class = 3; offset = 0; microstep = 0; extra = x }

abbrev pub tagged : ℕ → ℕ → ℕ → Tag → ℕ → Sheet
tagged i k n t x = record { member = i; kind = k; number = n; class = (tagWords t).class; offset = (tagWords t).offset; microstep = (tagWords t).microstep; extra = x }

-- Deliveries: 1 Started, 2 Grant (revision, tag), 3 Payload (route, tag, handle), 4 Idle (revision), 5 Stopped,
-- 6 SuppressPublication (tag), 7 Failed (number: cause; extra: abort code).
abbrev pub sheet_of : Delivery → Sheet
sheet_of (Started i) = plain i 1 0 0
sheet_of (Grant i r t) = tagged i 2 r t 0
sheet_of (Carried i k t h) = tagged i 3 k t h
sheet_of (Idle i r) = plain i 4 r 0
sheet_of (Stopped i) = plain i 5 0 0
sheet_of (Suppress i t) = tagged i 6 0 t 0
sheet_of (Failed i c x) = plain i 7 c x

-- Seven u64 words: member, kind, number, tag class, offset, microstep, extra.
abbrev pub listed : Sheet → List ℕ
listed s = s.member ∷ s.kind ∷ s.number ∷ s.class ∷ s.offset ∷ s.microstep ∷ s.extra ∷ []

unfoldable pub words_of : Delivery → List ℕ
words_of d = listed (sheet_of d)
