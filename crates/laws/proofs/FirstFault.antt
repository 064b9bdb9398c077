-- Paper 01, 'Order': in the file check, nothing after the first faulty line changes the answer; and past sound body lines the check goes on as if from there.
use Rattle.std.specs.Prelude.{◌≡◌, refl}
use Rattle.std.proofs.Common.{sym, ap, add-zero}
use Rattle.std.proofs.Math.Path.{subst}
use mathlib.Core.List.{List, [], ◌∷◌, ◌++◌}
use Prim.Native.Nat.{ℕ, suc, ◌+◌, ◌≤◌}
use native.Mathlib.Omega.{arith}
use Rattle.std.proofs.Math.ListN.{length}
use Rattle.theory.specs.Step.{Change}
use Rattle.theory.specs.Answer.{fault, file}
use Rattle.meaning.specs.Lines.{Line, lines_of}
use Rattle.meaning.specs.Kinds.{Kind, Role, body_line, role}
use Rattle.meaning.specs.Format.{Format}
use Rattle.meaning.specs.Records.{Rec}
use Rattle.meaning.specs.File.{Stage, Judged, bad, good, judge_line, Sheet, adds, body_after, at_start, in_body, after_metadata, after_trailer, at_end, on_line, read_from, read_file, most_body}
use Rattle.meaning.specs.Answers.{Read, Refusal}
use Rattle.laws.specs.LinesAndFields.{ends, ends_all}
use Rattle.laws.specs.SoundFile.{SaysChanges}
use Rattle.laws.proofs.SoundFile.{body_accepted}
use Rattle.laws.specs.FirstFault.{FaultAt, SameFault}

-- ---- where a fault stands

at_adds : (i m : ℕ) (o : Role) (k : Kind) (t : List ℕ) (r : Read Sheet) → FaultAt (suc i) m r → FaultAt i (suc m) (adds o k t r)
unfolding adds
at_adds i m o k t (fault r) h = (omega (arith, h.0), omega (arith, h.1), λ e. h.2 (omega (arith, e)))
at_adds i m o k t (file s) h = tt

at_line_lem : (i m : ℕ) (t : List ℕ) (go : Kind → Stage → Read Sheet) → ((k : Kind) (q : Stage) → FaultAt (suc i) m (go k q)) → (j : Judged) → FaultAt i (suc m) (on_line i t j go)
unfolding on_line
at_line_lem i m t go h (bad f) = (omega arith, omega arith, λ e. absurd (omega (arith, e)))
at_line_lem i m t go h (good k q) = at_adds i m (role k) k t (go k q) (h k q)

-- ---- faults that are the same

same_adds : (i : ℕ) (o : Role) (k : Kind) (t : List ℕ) (r s : Read Sheet) → SameFault i r s → SameFault i (adds o k t r) (adds o k t s)
unfolding adds
same_adds i o k t (fault r) s h = λ lt. ap (adds o k t) (h lt)
same_adds i o k t (file x) s h = tt

same_line : (i e : ℕ) (t : List ℕ) (go to : Kind → Stage → Read Sheet) → ((k : Kind) (q : Stage) → SameFault e (go k q) (to k q))
    → (j : Judged) → SameFault e (on_line i t j go) (on_line i t j to)
unfolding on_line
same_line i e t go to h (bad f) = λ lt. refl
same_line i e t go to h (good k q) = same_adds e (role k) k t (go k q) (to k q) (h k q)

early : (i : ℕ) (r s : Read Sheet) (m : ℕ) → FaultAt i m r → SameFault i r s
early i (fault r) s m h = λ lt. absurd (omega (arith, h.0, lt))
early i (file x) s m h = tt

module _ (F : Format) where
  -- ---- nothing after the first fault counts

  fault_at_lem : (i : ℕ) (p : Stage) (n : ℕ) (ls : List Line) → FaultAt i (length ls) (read_from F i p n ls)
  unfolding read_from at_end
  fault_at_lem i at_start n [] = (omega arith, omega arith, λ e. refl)
  fault_at_lem i in_body n [] = (omega arith, omega arith, λ e. refl)
  fault_at_lem i after_metadata n [] = (omega arith, omega arith, λ e. refl)
  fault_at_lem i after_trailer n [] = tt
  fault_at_lem i p n (l ∷ ls) =
      at_line_lem i (length ls) l.text (λ k q. read_from F (suc i) q (body_after (role k) n) ls) (λ k q. fault_at_lem (suc i) q (body_after (role k) n) ls) (judge_line F p n l)

  -- a file's fault is at one of its lines; 3 may be at the line after its last
  pub file_fault_at : (b : List ℕ) → FaultAt 1 (length (lines_of b)) (read_file F b)
  unfolding read_file
  file_fault_at b = fault_at_lem 1 at_start 0 (lines_of b)

  -- files that agree in their first lines have the same fault, where it is at one of those
  pub nothing_after : (i : ℕ) (p : Stage) (n : ℕ) (ls ms ns : List Line) → SameFault (i + length ls) (read_from F i p n (ls ++ ms)) (read_from F i p n (ls ++ ns))
  unfolding read_from
  nothing_after i p n [] ms ns =
      let a = read_from F i p n ms in
      let b = read_from F i p n ns in
      subst (λ e. SameFault e a b) (sym (add-zero i)) (early i a b (length ms) (fault_at_lem i p n ms))
  nothing_after i p n (l ∷ ls) ms ns =
      let go : List Line → Kind → Stage → Read Sheet = λ xs k q. read_from F (suc i) q (body_after (role k) n) (ls ++ xs) in
      let e : suc i + length ls ≡ i + suc (length ls) = omega arith in
      same_line i (i + suc (length ls)) l.text (go ms) (go ns)
      (λ k q. subst (λ e. SameFault e (go ms k q) (go ns k q)) e (nothing_after (suc i) q (body_after (role k) n) ls ms ns)) (judge_line F p n l)

  -- ---- past sound body lines

  past_line : (i n : ℕ) (l : Line) (ls : List Line) (k : Kind) (r : Refusal) → judge_line F in_body n l ≡ good k in_body → role k ≡ body_line
      → read_from F (suc i) in_body (suc n) ls ≡ fault r → read_from F i in_body n (l ∷ ls) ≡ fault r
  unfolding read_from on_line adds body_after
  past_line i n l ls k r e o h = rw (e, o, h)

  -- a fault after any run of sound body lines, at whatever line, is the file's fault: so what the 4,097th body line gets is what the line itself gets
  pub past_body : (i n : ℕ) (ts : List (List ℕ)) (cs : List (Change Rec)) (ls : List Line) (r : Refusal) → SaysChanges F (suc n) ts cs → n + length cs ≤ most_body
      → read_from F (i + length cs) in_body (n + length cs) ls ≡ fault r → read_from F i in_body n (ends_all ts ++ ls) ≡ fault r
  past_body i n [] [] ls r w l h = rw (add-zero i, add-zero n) at h
  past_body i n [] (x ∷ cs) ls r w l h = absurd w
  past_body i n (t ∷ ts) [] ls r w l h = absurd w
  past_body i n (t ∷ ts) (x ∷ cs) ls r w l h =
      let a = w.0.line in
      let d : i + length (x ∷ cs) ≡ suc i + length cs = omega arith in
      let e : n + length (x ∷ cs) ≡ suc n + length cs = omega arith in
      let rest = past_body (suc i) (suc n) ts cs ls r w.1 (omega arith) (rw (d, e) at h) in
      past_line i n (ends t) (ends_all ts ++ ls) a.kind r (body_accepted F n t x w.0 (omega arith)) a.roles rest
