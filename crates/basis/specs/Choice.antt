-- Choice by a test, and tests joined.
-- Assumes nothing.
use Rattle.std.specs.Prelude.{◌≡◌, Bool, true, false}

abbrev pub pick : {A : Type 0} → Bool → A → A → A
pick true a b = a
pick false a b = b

abbrev pub not : Bool → Bool
not true = false
not false = true

abbrev pub both : Bool → Bool → Bool
both true b = b
both false b = false

abbrev pub either : Bool → Bool → Bool
either true b = true
either false b = b

-- the first is chosen
pub chosen : {A : Type 0} (x y z : A) (b : Bool) → b ≡ true → z ≡ x → z ≡ pick b x y
chosen x y z b e h = rw e h

-- the first is passed over
pub passed : {A : Type 0} (x y z : A) (b : Bool) → b ≡ false → z ≡ y → z ≡ pick b x y
passed x y z b e h = rw e h
