-- The marked subtractions: (10,3) less 0, 10, 11.
-- Assumes nothing.
use mathlib.Core.Path.{◌≡◌, refl}
use Rattle.tags.specs.declared.Tag.TheVariants.{Never, Finite}
use Rattle.tags.specs.Tags.{top, less_of}

pub less_0 : less_of (Finite 10 3) 0 ≡ Finite 10 3
less_0 = refl

pub less_10 : less_of (Finite 10 3) 10 ≡ Finite 0 top
less_10 = refl

pub less_11 : less_of (Finite 10 3) 11 ≡ Never
less_11 = refl
