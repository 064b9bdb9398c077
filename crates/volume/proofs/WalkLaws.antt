-- The laws of what a walk counts.
use mathlib.Core.Path.{◌≡◌, refl, ap, ◌∙◌}
use mathlib.Core.List.{[]}
use Prim.Native.Nat.{ℕ, ◌+◌, ◌≤◌}
use native.Mathlib.Nat.{add-zero}
use native.Mathlib.Numerals.{add-one}
use native.Mathlib.Omega.{arith}
use borrow.Author.Rules.{rules}
use borrow.Author.Tests.{not-true, not-false}
use Rattle.std.specs.Prelude.{◌⊎◌}
use Rattle.std.proofs.Math.Logic.{inl, inr}
use Rattle.theory.specs.Step.{Op, ins, upd, del}
use Rattle.theory.specs.Answer.{count}
use Rattle.meaning.specs.Kinds.{Role, header_line, body_line, metadata_line, trailer_line, role}
use Rattle.meaning.specs.File.{body_after, at_end, read_from}
use Rattle.meaning.specs.Codes.{out_of_place}
use Rattle.meaning.specs.Answers.{Refusal, of_line, at_line, refused_with, taken_with}
use Rattle.layout.specs.declared.kinds.HeldKind.{HeldKind}
use Rattle.layout.specs.declared.kinds.Kind.{Kind as Named}
use Rattle.layout.specs.declared.kinds.Kind.TheVariants.{Header, Held, Metadata, Trailer}
use Rattle.layout.specs.Meant.{kind_meant}
use Rattle.layout.proofs.KindLaws.{role_of_lem}
use Rattle.volume.specs.declared.stages.Stage.{Stage}
use Rattle.volume.specs.declared.stages.Stage.TheVariants.{AtStart, InBody, AfterMetadata, AfterTrailer}
use Rattle.volume.specs.declared.lines.Change.{Change}
use Rattle.volume.specs.declared.lines.Change.TheVariants.{Insert, Update, Delete}
use Rattle.volume.specs.declared.walk.Walk.{Walk}
use Rattle.volume.specs.Meant.{change_meant}
use Rattle.volume.specs.Walk.{tally, counted_in, walked_on, checked_from, left_of, Within}
use Rattle.answers.specs.Meant.{counts_of}
use Rattle.layout.proofs.CheckLaws.{early_there, early_room}

-- ---- one body line more

module _ (w : Walk) (c : Change) where
  -- an insert
  pub count_insert : c ≡ Insert → record { stage = w.stage; line = w.line; body = w.body + 1; inserts = w.inserts + 1; updates = w.updates; deletes = w.deletes } ≡ counted_in w (change_meant c)
  unfolding counted_in
  count_insert e = rw (e, add-one w.body, add-zero w.updates, add-zero w.deletes)

  -- an update
  pub count_update : c ≡ Update → record { stage = w.stage; line = w.line; body = w.body + 1; inserts = w.inserts; updates = w.updates + 1; deletes = w.deletes } ≡ counted_in w (change_meant c)
  unfolding counted_in
  count_update e = rw (e, add-one w.body, add-zero w.inserts, add-zero w.deletes)

  -- a delete
  pub count_delete : c ≡ Delete → record { stage = w.stage; line = w.line; body = w.body + 1; inserts = w.inserts; updates = w.updates; deletes = w.deletes + 1 } ≡ counted_in w (change_meant c)
  unfolding counted_in
  count_delete e = rw (e, add-one w.body, add-zero w.inserts, add-zero w.updates)

pub ruleset counts = (rules, count_insert, count_update, count_delete)

-- ---- one line more

-- the walk at the next line, before the line is counted
abbrev pub stepped : Walk → Stage → Walk
stepped w p = record { stage = p; line = w.line + 1; body = w.body; inserts = w.inserts; updates = w.updates; deletes = w.deletes }

-- within fewer bytes is within more
pub within_more : (w : Walk) (n m : ℕ) → Within w n → n ≤ m → Within w m
within_more w n m h l = record {
  lines = let q = h.lines in omega arith;
  bodies = let q = h.bodies in omega arith;
  inserts_in = let q = h.inserts_in in omega arith;
  updates_in = let q = h.updates_in in omega arith;
  deletes_in = let q = h.deletes_in in omega arith;
}

-- a line takes a byte or more
pub within_stepped : (w : Walk) (p : Stage) (n : ℕ) → Within w n → Within (stepped w p) (n + 1)
within_stepped w p n h = let v = within_more w n (n + 1) h (omega arith) in record {
  lines = let q = h.lines in omega arith;
  bodies = v.bodies;
  inserts_in = v.inserts_in;
  updates_in = v.updates_in;
  deletes_in = v.deletes_in;
}

-- a line is at most one body line, with one change
tally_one : (r : Role) (o c : Op) → tally r o c ≤ 1
unfolding tally
tally_one header_line o c = omega arith
tally_one body_line ins ins = omega arith
tally_one body_line ins upd = omega arith
tally_one body_line ins del = omega arith
tally_one body_line upd ins = omega arith
tally_one body_line upd upd = omega arith
tally_one body_line upd del = omega arith
tally_one body_line del ins = omega arith
tally_one body_line del upd = omega arith
tally_one body_line del del = omega arith
tally_one metadata_line o c = omega arith
tally_one trailer_line o c = omega arith

-- so the body lines grow by one at most
body_one : (r : Role) (n : ℕ) → body_after r n ≤ n + 1
unfolding body_after
body_one header_line n = omega arith
body_one body_line n = omega arith
body_one metadata_line n = omega arith
body_one trailer_line n = omega arith

-- after a line the walk is within the bytes up to the next
pub within_on : (w : Walk) (r : Role) (c : Op) (p : Stage) (n m : ℕ) → Within w n → n + 1 ≤ m → Within (walked_on w r c p) m
unfolding walked_on
within_on w r c p n m h l = record {
  lines = let q = h.lines in omega arith;
  bodies = let q = h.bodies in omega (arith, body_one r w.body);
  inserts_in = let q = h.inserts_in in omega (arith, tally_one r ins c);
  updates_in = let q = h.updates_in in omega (arith, tally_one r upd c);
  deletes_in = let q = h.deletes_in in omega (arith, tally_one r del c);
}

module _ (w : Walk) (p : Stage) (c : Op) (kind : Named) where
  -- no other line than a body line is counted
  pub after_else : (kind ≡ Header) ⊎ ((kind ≡ Metadata) ⊎ (kind ≡ Trailer)) → stepped w p ≡ walked_on w (role (kind_meant kind)) c p
  unfolding walked_on tally body_after
  after_else (inl h) = rw (role_of_lem kind Header h, add-one w.line, add-zero w.inserts, add-zero w.updates, add-zero w.deletes)
  after_else (inr (inl h)) = rw (role_of_lem kind Metadata h, add-one w.line, add-zero w.inserts, add-zero w.updates, add-zero w.deletes)
  after_else (inr (inr h)) = rw (role_of_lem kind Trailer h, add-one w.line, add-zero w.inserts, add-zero w.updates, add-zero w.deletes)

  -- a body line is
  pub after_body : (v : Walk) (held : HeldKind) (o : Op) → kind ≡ Held held → o ≡ c → v ≡ counted_in (stepped w p) o → v ≡ walked_on w (role (kind_meant kind)) c p
  unfolding walked_on tally body_after counted_in
  after_body v held o h i q = q ∙ rw (i, role_of_lem kind (Held held) h, add-one w.line)

pub ruleset after = (rules, early_there, early_room, after_else, after_body, within_stepped)

-- ---- no line is left

-- before the trailer
pub end_out : (w : Walk) → (w.stage ≡ AfterTrailer → ⊥) → (x : Refusal) → x ≡ at_line w.line (of_line out_of_place) → refused_with x ≡ left_of w []
unfolding left_of read_from at_end checked_from
end_out w n x e = ap refused_with e ∙ go w.stage refl
  where
    go : (p : Stage) → w.stage ≡ p → refused_with (at_line w.line (of_line out_of_place)) ≡ left_of w []
    go AtStart h = rw h
    go InBody h = rw h
    go AfterMetadata h = rw h
    go AfterTrailer h = absurd (n h)

-- after it
pub end_trailer : (w : Walk) → w.stage ≡ AfterTrailer → taken_with (counts_of w.inserts w.updates w.deletes) ≡ left_of w []
unfolding left_of read_from at_end checked_from count
end_trailer w e = rw (e, add-zero w.inserts, add-zero w.updates, add-zero w.deletes)

pub ruleset ends = (rules, not-true, not-false, end_out, end_trailer)
