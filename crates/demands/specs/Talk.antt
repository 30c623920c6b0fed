-- P's whole case by words: seven words for each request, and the delivery words of each answer.
-- Assumes nothing.
use Rattle.std.specs.Prelude.{ℕ, ◌*◌, List, [], ◌∷◌, ◌++◌, map, take}
use Rattle.tags.specs.Tags.{top}
use Rattle.states.specs.declared.State.{State}
use Rattle.rti.specs.Entries.{Outcome, handled}

-- what a host holds, and what it is told: the refusal, and seven words for each delivery counted
pub record Host : Type 0 where
  pub state : State
  pub slab : List ℕ

pub record Reply : Type 0 where
  pub refusal : ℕ
  pub words : List ℕ

abbrev pub left_by : Outcome → Host
left_by o = record { state = o.answer.state; slab = o.slab }

abbrev pub told_by : Outcome → Reply
told_by o = record { refusal = o.answer.refusal; words = take (7 * o.answer.count) o.words }

-- what each request in turn is told, each lent the buffer `words`
unfoldable pub talk : List ℕ → List ℕ → Host → List (List ℕ) → List Reply
talk b words h [] = []
talk b words h (q ∷ qs) = let o = handled b h.state h.slab q words in told_by o ∷ talk b words (left_by o) qs

-- what the host holds after all of them
unfoldable pub after-talk : List ℕ → List ℕ → Host → List (List ℕ) → Host
after-talk b words h [] = h
after-talk b words h (q ∷ qs) = after-talk b words (left_by (handled b h.state h.slab q words)) qs

-- member, kind, number, tag class, offset, microstep, extra
unfoldable pub seven : ℕ → ℕ → ℕ → ℕ → ℕ → ℕ → ℕ → List ℕ
seven i k n c o m x = i ∷ k ∷ n ∷ c ∷ o ∷ m ∷ x ∷ []

-- "Whole case on P, identity 5, as member.request"
unfoldable pub requests : List (List ℕ)
requests =
    seven 0 1 5 3 0 0 0
    ∷ seven 1 1 5 3 0 0 0
    ∷ seven 0 2 1 1 0 0 0
    ∷ seven 1 2 1 1 10 0 0
    ∷ seven 0 4 0 1 10 0 77
    ∷ seven 0 3 0 1 0 0 0
    ∷ seven 0 2 2 3 0 0 0
    ∷ seven 1 3 0 1 10 0 0
    ∷ seven 1 2 2 3 0 0 0
    ∷ seven 0 5 2 3 0 0 0
    ∷ seven 1 5 2 3 0 0 0
    ∷ seven 0 6 0 3 0 0 0
    ∷ seven 1 6 0 3 0 0 0 ∷ []

-- refused with nothing
abbrev pub taken : List ℕ → Reply
taken ws = record { refusal = 0; words = ws }

-- "0.Hello: nothing. 1.Hello: Started 0, 1. 0.Publish 1 (0,0): Grant 0 FOREVER. 1.Publish 1 (10,0): Suppress 0 (0,M), Suppress 1
-- FOREVER. 0.Payload route 0 (10,0): Payload 1. 0.Complete (0,0): nothing. 0.Publish 2 none: Grant 1 revision 1 FOREVER.
-- 1.Complete (10,0), 1.Publish 2 none, 0.ConfirmIdle 2: nothing. 1.ConfirmIdle 2: Idle 0, 1. Each Stop: Stopped"
unfoldable pub replies : List Reply
replies =
    map taken (
    []
    ∷ (seven 0 1 0 3 0 0 0 ++ seven 1 1 0 3 0 0 0)
    ∷ seven 0 2 1 2 0 0 0
    ∷ (seven 0 6 0 1 0 top 0 ++ seven 1 6 0 2 0 0 0)
    ∷ seven 1 3 0 1 10 0 77
    ∷ []
    ∷ seven 1 2 1 2 0 0 0
    ∷ []
    ∷ []
    ∷ []
    ∷ (seven 0 4 2 3 0 0 0 ++ seven 1 4 2 3 0 0 0)
    ∷ seven 0 5 0 3 0 0 0
    ∷ seven 1 5 0 3 0 0 0 ∷ [])
