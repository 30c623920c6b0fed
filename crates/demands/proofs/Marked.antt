-- The marked cases, by computation.
-- Assumes nothing.
use mathlib.Core.Path.{◌≡◌, refl}
use Rattle.delays.specs.Graph.{plus, next, via, cost, direct}
use Rattle.delays.specs.Search.{first, mask_of}
use Rattle.delays.specs.Refusals.{first_loop, linked_by, component_of, cycle_of, far_target, far_source, far_of, or_else, judged, refusal_of}
use Rattle.basis.specs.Numbers as numbers
use Rattle.delays.specs.Lists.{passing, sourced, direct_sources, transitive_sources, reached, downstream}
use Rattle.image.specs.Image as image
use Rattle.image.specs.Image.{laid, image_of}
use Rattle.demands.specs.Samples.{places, plan_p}
use Rattle.demands.specs.Marked.{plan, in_a_row, beside, lowered, self_loop, image_p, Marked}
use Rattle.demands.proofs.Samples.{whole-case, whole-case-finished}
use Rattle.demands.proofs.Talk.{computed}

P-bytes : image_of plan_p ≡ image_p
unfolding places plan_p image_p image_of image.member_table image.edge_table image.direct_table image.transitive_table image.downstream_table image.header_of image.direct_count image.transitive_count image.downstream_count image.target_row image.source_row image.edge_row image.member_row image.up_to image.first_of image.gathered laid numbers.bytes direct_sources transitive_sources downstream reached passing sourced direct cost via next plus
P-bytes = refl

pub marked : Marked
unfolding places plan in_a_row beside lowered self_loop plus next via cost direct first mask_of first_loop linked_by component_of cycle_of far_target far_source far_of or_else judged refusal_of
marked =
    record {
      less_0 = refl;
      less_10 = refl;
      less_11 = refl;
      too_far = refl;
      taken = refl;
      above = refl;
      direct = refl;
      transitive = refl;
      self-loop = refl;
      bytes = P-bytes;
      session = whole-case;
      ended = whole-case-finished;
      words = computed.words;
      finished = computed.finished;
      tail = computed.tail;
    }
