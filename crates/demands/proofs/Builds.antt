-- Each sham of `handle` falls to a demand, on P.
-- Assumes nothing.
use Prim.Native.Nat.{ℕ, zero, suc, ◌≤◌}
use native.Mathlib.Omega.{arith}
use mathlib.Core.Path.{◌≡◌, refl, sym, ap, ◌∙◌}
use mathlib.Core.Bool.{Bool, true}
use mathlib.Core.List.{List, [], ◌∷◌}
use lib.Dec.{leb}
use lib.ListN.{length, get_or, replicate}
use borrow.Author.Tests.{leb-true}
use Rattle.basis.specs.Choice.{both}
use Rattle.tags.specs.Tags.{top}
use Rattle.tags.proofs.Order.{clash}
use Rattle.transit.proofs.Lists.{both_true}
use Rattle.states.specs.declared.State.{State}
use Rattle.states.specs.Records.{blank_record, fresh_state}
use Rattle.states.specs.Sessions.{fresh}
use Rattle.states.specs.Steps.{start}
use Rattle.states.proofs.Formed.{fresh-sound}
use Rattle.rows.specs.Rows.{members}
use Rattle.rows.specs.Nets.{net_in}
use Rattle.recognised.specs.Recognised.{refusal_in}
use Rattle.recognised.proofs.Answers.{not-refused}
use Rattle.recognised.proofs.Sits.{bytes_of}
use Rattle.recognised.proofs.Usable.{usable}
use Rattle.members.specs.Codes.{session_of}
use Rattle.members.proofs.Nets.{net_count}
use Rattle.rti.specs.Entries.{Outcome, open_refusal, shown, judged, opened as opened_by, handled}
use Rattle.rti.proofs.Refusals.{open_free}
use Rattle.demands.specs.Histories.{opened as Reached·opened}
use Rattle.demands.specs.Talk.{Host, left_by, seven}
use Rattle.demands.specs.Marked.{image_p, host_p}
use Rattle.demands.specs.Builds.{Handle, Right, HistoryBy, opened, asked, Moving, Refusing, Fixed, Idle, Counting, failing, once, after as after-all}
use Rattle.demands.proofs.Histories.{demand_3}
use Rattle.demands.proofs.Words.{read_again}
use Rattle.demands.proofs.Calls.{bounded_in, judged-number}
use Rattle.demands.proofs.Talk.{hello, hello-next, sixth, seventh, buffer, first-left, sofar, stuck, under, computed}

-- ---- each falls to demand 2
pub refusing-falls : (f : Handle) → Refusing f → Right f → ⊥
refusing-falls f h r = omega (arith, h.number image_p host_p.state host_p.slab hello buffer, ap (λ (o : Outcome). o.answer.refusal) (r image_p host_p.state host_p.slab hello buffer), computed.taken)

pub fixed_falls : (o : Outcome) (f : Handle) → Fixed o f → Right f → ⊥
fixed_falls o f h r =
    let count : Outcome → ℕ = λ x. x.answer.count in
    omega (
      arith,
      ap count (r image_p host_p.state host_p.slab hello buffer),
      ap count (h image_p host_p.state host_p.slab hello buffer),
      computed.none,
      ap count (r image_p first-left.state first-left.slab hello-next buffer),
      ap count (h image_p first-left.state first-left.slab hello-next buffer),
      computed.two,
    )

pub idle-falls : (f : Handle) → Idle f → Right f → ⊥
idle-falls f h r =
    clash (sym computed.apart ∙ (ap (λ (s : State). (get_or s.members 0 blank_record).joined) (sym (h image_p host_p.state host_p.slab hello buffer) ∙ ap (λ (o : Outcome). o.answer.state) (r image_p host_p.state host_p.slab hello buffer)) ∙ computed.joins))

pub counting-falls : (k : ℕ) (f : Handle) → Counting k f → Right f → ⊥
counting-falls k f h r =
    let count : Outcome → ℕ = λ x. x.answer.count in
    omega (
      arith,
      ap count (r image_p host_p.state host_p.slab hello buffer),
      h image_p host_p.state host_p.slab hello buffer,
      computed.none,
      ap count (r image_p first-left.state first-left.slab hello-next buffer),
      h image_p first-left.state first-left.slab hello-next buffer,
      computed.two,
    )

pub failing-falls : (n : ℕ) → Right (failing n) → ⊥
failing-falls n r = omega (arith, ap (λ (x : Outcome). x.answer.count) (r image_p host_p.state host_p.slab hello buffer), computed.none, computed.failed n)

pub once-falls-to_2 : Right once → ⊥
once-falls-to_2 r = let h = sofar handled in omega (arith, ap (λ (x : Outcome). x.answer.count) (r image_p h.state h.slab seventh buffer), computed.grant, computed.missing)

-- ---- one that refuses always meets demand 3 emptily
still : (f : Handle) → Refusing f → (b : List ℕ) (s : State) (slab : List ℕ) → HistoryBy f b s slab → (refusal_in b ≡ 0) × (identity : ℕ) × (session_of s slab ≡ fresh (net_in b).count identity)
still f h b _ _ (opened identity slab e) = go (open_refusal b (length slab)) refl (sym (judged-number (open_refusal b (length slab)) _ _ _ _) ∙ opened-number)
  where
    opened-number : (judged (open_refusal b (length slab)) (start (fresh (members b) identity)) (fresh_state 0 0) slab []).answer.refusal ≡ 0
    opened-number = unfold opened_by in e

    go : (r : ℕ) → open_refusal b (length slab) ≡ r → r ≡ 0 → (refusal_in b ≡ 0) × (i : ℕ) × (session_of (opened_by b identity slab).answer.state (opened_by b identity slab).slab ≡ fresh (net_in b).count i)
    go r z w = unfold opened_by in ((open_free b (length slab) (z ∙ w)).0, identity, rw (z ∙ w) again)
      where
        again : session_of (judged 0 (start (fresh (members b) identity)) (fresh_state 0 0) slab []).answer.state (judged 0 (start (fresh (members b) identity)) (fresh_state 0 0) slab []).slab ≡ fresh (net_in b).count identity
        again = unfold judged shown net_in in read_again (net_in b) (bounded_in b (not-refused b (open_free b (length slab) (z ∙ w)).0)) (fresh (net_in b).count identity) (fresh-sound (net_in b) identity) slab
still f h b _ _ (asked {s = s} {slab = slab} r request words w) = rw (h.state b s slab request words, h.slab b s slab request words) (still f h b s slab r)

pub refusing-meets : (f : Handle) → Refusing f → Moving f
refusing-meets f h b bytes s slab r =
    let z = still f h b s slab r in
    let law = (usable b (bytes_of b bytes) z.0).lawful in
    let d = demand_3 (net_in b) law (fresh (net_in b).count z.1) (Reached·opened z.1) in
    rw z.2 (λ j l. d.0 j (omega (arith, net_count b)), d.1)

-- ---- one that grants on first publication only falls to demand 3: member 1 holds no grant
under_at : (t : ℕ) (l : List ℕ) → under t l ≡ true → (k : ℕ) → get_or l k 0 ≤ t
unfolding under
under_at t [] e k = omega arith
under_at t (x ∷ xs) e zero = leb-true x t (both_true (leb x t) (under t xs) e).0
under_at t (x ∷ xs) e (suc k) = under_at t xs (both_true (leb x t) (under t xs) e).1 k

unfoldable all_under : List (List ℕ) → Bool
all_under [] = true
all_under (q ∷ qs) = both (under top q) (all_under qs)

talked : (f : Handle) (b words : List ℕ) (h : Host) → HistoryBy f b h.state h.slab → (qs : List (List ℕ)) → all_under qs ≡ true → HistoryBy f b (after-all f b words h qs).state (after-all f b words h qs).slab
unfolding after-all all_under
talked f b words h r [] e = r
talked f b words h r (q ∷ qs) e =
    let z = both_true (under top q) (all_under qs) e in
    talked f b words (left_by (f b h.state h.slab q words)) (asked r q words (under_at top q z.0)) qs z.1

stuck-reached : HistoryBy once image_p stuck.state stuck.slab
unfolding sofar
stuck-reached = asked (talked once image_p buffer host_p P-opened sixth small) seventh buffer (under_at top seventh (unfold under in refl))
  where
    small : all_under sixth ≡ true
    small = unfold all_under under sixth seven in refl

    P-opened : HistoryBy once image_p host_p.state host_p.slab
    P-opened = unfold host_p in opened 5 (replicate 130 9) computed.opens

pub once-falls-to_3 : Moving once → ⊥
once-falls-to_3 h =
    let e = computed.grantless ((h image_p (λ i. omega (arith, under_at 255 image_p computed.small i)) stuck.state stuck.slab stuck-reached).0 1 computed.inside) in
    let z : ◌≡◌ {A = ℕ} 0 1 = cc in omega arith
