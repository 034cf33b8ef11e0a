-- How a trace and a diagram grow with one more step.
use Rattle.cdc_diagnostics.proofs.Words.{Bool, List, Seen, Step, Submit, [], ap, append-nil, append_assoc, arith, diagram_after, diagram_head, diagram_line, diagram_text, false, if_asked, length, refl, sym, taken_after, taken_with, trace_after, trace_line, true, ℕ, ◌++◌, ◌+◌, ◌∙◌, ◌∷◌, ◌≡◌, ◌≤◌}

-- a step takes one batch at most
pub taken_with-most : (n : ℕ) (step : Step) → taken_with n step ≤ n + 1
taken_with-most n (Submit batch) = omega arith
taken_with-most n _ = omega arith

-- steps take no more batches than there are steps
pub taken_after-most : (n : ℕ) (seen : List Seen) → taken_after n seen ≤ n + length seen
taken_after-most n [] = omega arith
taken_after-most n (s ∷ seen) =
    omega (arith, taken_with-most n s.step, taken_after-most (taken_with n s.step) seen)

-- the batches after one more step
pub taken_after-more : (n : ℕ) (seen : List Seen) (s : Seen)
    → taken_after n (seen ++ s ∷ []) ≡ taken_with (taken_after n seen) s.step
taken_after-more n [] s = refl
taken_after-more n (x ∷ seen) s = taken_after-more (taken_with n x.step) seen s

-- one more step is one more line of the trace
pub trace_after-more : (n : ℕ) (seen : List Seen) (s : Seen)
    → trace_after n (seen ++ s ∷ []) ≡ trace_after n seen ++ trace_line (taken_with (taken_after n seen) s.step) s
trace_after-more n [] s = append-nil (trace_line (taken_with n s.step) s)
trace_after-more n (x ∷ seen) s =
    let m = taken_with n x.step in
    ap (λ (lines : List ℕ). trace_line m x ++ lines) (trace_after-more m seen s)
    ∙ sym (append_assoc (trace_line m x) (trace_after m seen) (trace_line (taken_with (taken_after m seen) s.step) s))

-- and one more line of the diagram
pub diagram_after-more : (n : ℕ) (seen : List Seen) (s : Seen)
    → diagram_after n (seen ++ s ∷ []) ≡ diagram_after n seen ++ diagram_line (taken_with (taken_after n seen) s.step) s
diagram_after-more n [] s = append-nil (diagram_line (taken_with n s.step) s)
diagram_after-more n (x ∷ seen) s =
    let m = taken_with n x.step in
    ap (λ (lines : List ℕ). diagram_line m x ++ lines) (diagram_after-more m seen s)
    ∙ sym (append_assoc (diagram_line m x) (diagram_after m seen)
    (diagram_line (taken_with (taken_after m seen) s.step) s))

pub diagram_text-more : (subscribers : ℕ) (seen : List Seen) (s : Seen)
    → diagram_text subscribers (seen ++ s ∷ [])
    ≡ diagram_text subscribers seen ++ diagram_line (taken_with (taken_after 0 seen) s.step) s
diagram_text-more subscribers seen s =
    ap (λ (lines : List ℕ). diagram_head subscribers ++ lines) (diagram_after-more 0 seen s)
    ∙ sym (append_assoc (diagram_head subscribers) (diagram_after 0 seen)
    (diagram_line (taken_with (taken_after 0 seen) s.step) s))

-- a longer text, if it is asked for
pub if_asked-more : (asked : Bool) (text line more : List ℕ) → more ≡ text ++ line
    → if_asked asked text ++ if_asked asked line ≡ if_asked asked more
if_asked-more true text line more is = sym is
if_asked-more false text line more is = refl
