-- Laws of decimal numbers.
-- Assumes nothing.
use Rattle.std.proofs.Common.{ℕ, ◌≡◌, ◌+◌, ◌<◌, ◌≤◌, List, Some, length, drop, get_or, ap, add-one, drop-cons}
use Rattle.std.specs.Option.{option_and_then}
use Rattle.std.proofs.lemmas.List.{drop_all}
use Rattle.text.specs.Numbers.{longer_of, read_from}

module _ (w : List ℕ) (i v : ℕ) where
  -- what the digits from place i on say after v
  pub read_step : i < length w → read_from (drop i w) v ≡ option_and_then (read_from (drop (i + 1) w)) (longer_of v (get_or w i 0))
  unfolding read_from
  read_step h = rw add-one (ap (λ (l : List ℕ). read_from l v) (drop-cons w i 0 h))

  pub read-end : length w ≤ i → read_from (drop i w) v ≡ Some v
  unfolding read_from
  read-end h = ap (λ (l : List ℕ). read_from l v) (drop_all i w h)
