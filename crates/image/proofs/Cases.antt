-- "Whole case P": from plan bytes to the compiled plan, by computation.
-- Assumes nothing.
use mathlib.Core.Path.{◌≡◌, refl}
use mathlib.Core.List.{List, [], ◌∷◌, ◌++◌}
use Prim.Native.Nat.{ℕ}
use lib.ListN.{replicate}
use Rattle.basis.specs.Numbers.{bytes, number, number_at}
use Rattle.plans.specs.declared.Plan.{Plan}
use Rattle.plans.specs.Rows.{member_at, edge_from}
use Rattle.plans.specs.Refusals.{first_of, among, framed, member_fault, member_repeat, edge_fault, rows_refused, refusal_of}
use Rattle.plans.specs.Order.{member_before, edge_before, insert, ordered, place}
use Rattle.plans.specs.Reading.{plan_from, reading_of}
use Rattle.delays.specs.Graph.{plus, next, via, cost, direct}
use Rattle.delays.specs.Lists.{passing, sourced, direct_sources, transitive_sources, reached, downstream}
use Rattle.delays.specs.Search.{first}
use Rattle.delays.specs.Refusals as delayed
use Rattle.image.specs.Image as image
use Rattle.image.specs.Image.{words, laid, image_of, total_of}
use Rattle.image.specs.Compiling.{written, fitted, outcome_of, compiled_of}

-- "members 100, 200 with capacity 1, edge 7 from 100 to 200, delay 10"
unfoldable pub plan_p : Plan
plan_p =
    record {
      members = 2;
      edges = 1;
      ids = 100 ∷ 200 ∷ replicate 30 0;
      capacities = 1 ∷ 1 ∷ replicate 30 0;
      routes = 7 ∷ replicate 255 0;
      sources = 0 ∷ replicate 255 0;
      targets = 1 ∷ replicate 255 0;
      delays = 10 ∷ replicate 255 0;
    }

-- its plan bytes
unfoldable pub bytes_p : List ℕ
bytes_p =
    words (1 ∷ 2 ∷ 1 ∷ 24 ∷ 56 ∷ 88 ∷ [])
    ++ (bytes 8 100 ++ (words (1 ∷ 0 ∷ [])
    ++ (bytes 8 200 ++ (words (1 ∷ 0 ∷ [])
    ++ laid (bytes 8) (7 ∷ 100 ∷ 200 ∷ 10 ∷ [])))))

-- "Header 1,2,1,1,1,1,48,128,152,168,184,188. Members (100,1,0,0,0,0,0,1,0) and (200,1,0,1,0,1,1,0,0). Edge (7,0,1,10).
-- Direct (0,0,10). Transitive (0,0,10). Downstream 1."
unfoldable pub image_p : List ℕ
image_p =
    words (1 ∷ 2 ∷ 1 ∷ 1 ∷ 1 ∷ 1 ∷ 48 ∷ 128 ∷ 152 ∷ 168 ∷ 184 ∷ 188 ∷ [])
    ++ (bytes 8 100 ++ (words (1 ∷ 0 ∷ 0 ∷ 0 ∷ 0 ∷ 0 ∷ 1 ∷ 0 ∷ [])
    ++ (bytes 8 200 ++ (words (1 ∷ 0 ∷ 1 ∷ 0 ∷ 1 ∷ 1 ∷ 0 ∷ 0 ∷ [])
    ++ (bytes 8 7 ++ (words (0 ∷ 1 ∷ []) ++ (bytes 8 10
    ++ (words (0 ∷ 0 ∷ []) ++ (bytes 8 10
    ++ (words (0 ∷ 0 ∷ []) ++ (bytes 8 10
    ++ words (1 ∷ []))))))))))))

pub P-read : (reading_of bytes_p).plan ≡ plan_p
unfolding plan_p bytes_p reading_of plan_from ordered insert place member_before edge_before refusal_of rows_refused edge_fault member_repeat member_fault framed among first_of member_at edge_from number_at number bytes laid
P-read = refl

pub P-image : image_of plan_p ≡ image_p
unfolding plan_p image_p image_of image.member_table image.edge_table image.direct_table image.transitive_table image.downstream_table image.header_of image.direct_count image.transitive_count image.downstream_count image.target_row image.source_row image.edge_row image.member_row image.up_to image.first_of image.gathered laid bytes direct_sources transitive_sources downstream reached passing sourced direct cost via next plus
P-image = refl

-- 188 bytes
pub P_compiled : compiled_of bytes_p 188 ≡ written 188
unfolding compiled_of outcome_of fitted plan_p bytes_p reading_of plan_from ordered insert place member_before edge_before refusal_of rows_refused edge_fault member_repeat member_fault framed among first_of member_at edge_from number_at number bytes laid total_of image.direct_count image.transitive_count image.downstream_count image.first_of direct_sources transitive_sources downstream reached passing sourced direct cost via next plus delayed.refusal_of delayed.judged delayed.or_else delayed.cycle_of delayed.far_of delayed.first_loop delayed.far_source delayed.far_target first
P_compiled = refl
