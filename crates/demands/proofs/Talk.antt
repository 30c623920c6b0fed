-- P's session by words, and what the shams would do in it: all by computation.
-- Assumes nothing.
use Prim.Native.Nat.{ℕ, ◌<◌}
use native.Mathlib.Omega.{arith}
use mathlib.Core.Path.{◌≡◌, refl}
use mathlib.Core.Bool.{Bool, true, false}
use Rattle.std.proofs.Common.{Option, None, Some}
use mathlib.Core.List.{List, [], ◌∷◌}
use lib.Dec.{leb}
use lib.ListN.{get_or, drop, replicate}
use Rattle.basis.specs.Choice.{both}
use Rattle.basis.specs.Numbers.{bytes, number, number_at}
use Rattle.basis.specs.Parts.{part, replaced}
use Rattle.tags.specs.declared.Tag.TheVariants.{Finite}
use Rattle.plans.specs.Nets as net
use Rattle.delays.specs.Graph.{plus, next, via, cost, direct}
use Rattle.delays.specs.Search.{first, mask_of}
use Rattle.delays.specs.Refusals.{first_loop, linked_by, component_of, cycle_of, far_target, far_source, far_of, or_else, judged as delays·judged, refusal_of}
use Rattle.delays.specs.Lists.{passing, sourced, direct_sources, transitive_sources, reached, downstream}
use Rattle.image.specs.Image as image
use Rattle.image.specs.Image.{laid, image_of}
use Rattle.transit.specs.Tags as tags
use Rattle.transit.specs.Tags.{insert, after, holds}
use Rattle.transit.specs.Words as words
use Rattle.states.specs.Records.{blank_record}
use Rattle.states.specs.Sessions.{view}
use Rattle.states.specs.Rules.{least_to, earliest, over, past, arrivals, completions, horizon, due, bound_of, useful}
use Rattle.states.specs.Steps as step
use Rattle.states.specs.Steps.{each, to_all, any, phase_of, lifecycle, bad_publication, bad_completion, bad_payload, bad_target, payload_refusal, kind_refusal, publishing, effect, visit, grant_below, grants, at_rest, idles, bounds, welcome, accepted, answered}
use Rattle.rows.specs.Rows as rows
use Rattle.rows.specs.Plans.{listed, padded, plan_in}
use Rattle.rows.specs.Nets.{routes_from, direct_in, minimum_in, net_in}
use Rattle.rows.specs.Loops.{delay_of}
use Rattle.recognised.specs.Recognised.{every, ascending, same, taken, is_image, longer, refusal_in}
use Rattle.requests.specs.Asking as asking
use Rattle.requests.specs.Asking.{asked_by, judged_by, form_of, publish_of, complete_of, payload_of, numberless_of, spoken_by}
use Rattle.requests.specs.Sending.{words_of}
use Rattle.members.specs.Codes.{session_of, state_of, slab_of, lays_of, members_from}
use Rattle.members.specs.Formed.{formed, formed_at, formed_record, limited, orderly, is_blank, bare, unmarked, blank_at}
use Rattle.passes.specs.Ties.{all_words}
use Rattle.rti.specs.Entries.{Outcome, open_refusal, abort_refusal, request_refusal, shown, judged, opened as opened_by, handled, finished_state}
use Rattle.demands.specs.Histories.{Answered}
use Rattle.demands.specs.Shams.{refusing, grants_once}
use Rattle.demands.specs.Talk.{Host, left_by, talk, after-talk, seven, requests, replies}
use Rattle.demands.specs.Marked.{image_p, host_p}
use Rattle.demands.specs.Builds.{Handle, carrying, failing, once, after as after-all}

-- ---- P's case up to 0.Publish 2 none
abbrev pub hello : List ℕ
hello = 0 ∷ 1 ∷ 5 ∷ 3 ∷ 0 ∷ 0 ∷ 0 ∷ []

abbrev pub hello-next : List ℕ
hello-next = 1 ∷ 1 ∷ 5 ∷ 3 ∷ 0 ∷ 0 ∷ 0 ∷ []

-- the first six requests, and the seventh
unfoldable pub sixth : List (List ℕ)
sixth =
    hello ∷ hello-next
    ∷ seven 0 2 1 1 0 0 0
    ∷ seven 1 2 1 1 10 0 0
    ∷ seven 0 4 0 1 10 0 77
    ∷ seven 0 3 0 1 0 0 0 ∷ []

abbrev pub seventh : List ℕ
seventh = 0 ∷ 2 ∷ 2 ∷ 3 ∷ 0 ∷ 0 ∷ 0 ∷ []

abbrev pub buffer : List ℕ
buffer = replicate 35 8

-- what a build answers a host on P
abbrev pub by : Handle → Host → List ℕ → Outcome
by f h q = f image_p h.state h.slab q buffer

abbrev pub first-left : Host
first-left = left_by (by handled host_p hello)

unfoldable pub sofar : Handle → Host
sofar f = after-all f image_p buffer host_p sixth

abbrev pub stuck : Host
stuck = left_by (by once (sofar once) seventh)

-- every number is at most t
unfoldable pub under : ℕ → List ℕ → Bool
under t [] = true
under t (x ∷ xs) = both (leb x t) (under t xs)

pub record Computed : Type 0 where
  -- the whole case, as it is marked
  pub words : talk image_p buffer host_p requests ≡ replies
  pub finished : finished_state (after-talk image_p buffer host_p requests).state ≡ true
  pub tail : drop 128 (after-talk image_p buffer host_p requests).slab ≡ 9 ∷ 9 ∷ []
  -- P's bytes are bytes, and are opened
  pub small : under 255 image_p ≡ true
  pub opens : (opened_by image_p 5 (replicate 130 9)).answer.refusal ≡ 0
  -- what demand 2 asks: nothing is sent to the first Hello, two are to the second; the first joins; a grant comes late
  pub taken : (by handled host_p hello).answer.refusal ≡ 0
  pub none : (by handled host_p hello).answer.count ≡ 0
  pub two : (by handled first-left hello-next).answer.count ≡ 2
  pub apart : (get_or host_p.state.members 0 blank_record).joined ≡ false
  pub joins : (get_or (by handled host_p hello).answer.state.members 0 blank_record).joined ≡ true
  pub grant : (by handled (sofar handled) seventh).answer.count ≡ 1
  -- what shams do
  pub failed : (n : ℕ) → (by (failing n) host_p hello).answer.count ≡ 2
  pub missing : (by once (sofar handled) seventh).answer.count ≡ 0
  -- what demand 3 would ask of one: a grant to member 1
  pub inside : 1 < rows.members image_p
  pub grantless : Answered (net_in image_p) (view (session_of stuck.state stuck.slab)) 1 → ◌≡◌ {A = Option ℕ} None (Some 1)

pub computed : Computed
unfolding host_p talk after-talk requests seven replies finished_state sofar after-all sixth carrying refusing grants_once under opened_by handled request_refusal abort_refusal open_refusal shown judged refusal_in longer is_image taken same ascending every plan_in padded listed image_p number number_at image_of image.member_table image.edge_table image.direct_table image.transitive_table image.downstream_table image.header_of image.direct_count image.transitive_count image.downstream_count image.target_row image.source_row image.edge_row image.member_row image.up_to image.first_of image.gathered laid bytes direct_sources transitive_sources downstream reached passing sourced direct cost via next plus first mask_of first_loop linked_by component_of cycle_of far_target far_source far_of or_else delays·judged refusal_of rows.field net_in direct_in minimum_in routes_from delay_of net.downstream least_to earliest over past arrivals completions horizon due bound_of useful each to_all step.every any phase_of lifecycle bad_publication bad_completion bad_payload bad_target holds payload_refusal kind_refusal step.refusal_of insert after publishing effect visit grant_below grants at_rest idles bounds welcome accepted answered step.step asked_by judged_by form_of publish_of complete_of payload_of numberless_of spoken_by asking.far_of words_of all_words replaced part session_of state_of slab_of lays_of members_from formed formed_at formed_record limited orderly is_blank bare unmarked blank_at words.lay words.tags_of words.blank words.formed_stretch tags.ascending
computed =
    record {
      words = refl;
      finished = refl;
      tail = refl;
      small = refl;
      opens = refl;
      taken = refl;
      none = refl;
      two = refl;
      apart = refl;
      joins = refl;
      grant = refl;
      failed = λ n. refl;
      missing = refl;
      inside = omega arith;
      grantless = λ h. (h 1 (Finite 10 0) refl refl refl).0;
    }
