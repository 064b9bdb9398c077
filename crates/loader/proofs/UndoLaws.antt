-- The laws of the undo: its parts one after another, where they fit.
use mathlib.Core.Path.{◌≡◌, sym, ap, ◌∙◌}
use mathlib.Core.List.{List, [], ◌++◌}
use Prim.Native.Nat.{ℕ, ◌+◌, ◌-◌, ◌^◌, ◌≤◌, ◌<◌}
use native.Mathlib.Omega.{arith}
use borrow.Rule.Slice.PartMut.{put_mid}
use mir.Syntax.{w64}
use mir.Val.{Fits}
use lib.ListN.{length, take, drop, length-append, length-drop}
use lib.Seq.{length-take-le, take_all}
use Rattle.text.specs.Front.{in_front}
use Rattle.text.specs.Places.{line_end}
use Rattle.text.proofs.FrontLaws.{front_same, front_then, front_last, last_room}
use Rattle.writer.specs.Room.{Put}
use Rattle.writer.specs.Runs.{back_texts}
use Rattle.trial.specs.Trial.{undo_text}
use Rattle.loader.specs.Lent.{Lent}

module _ (h f steps before : List ℕ) (n e x : ℕ) (q : x ≡ line_end f 0) (w : Lent f before n e) where
  -- the file's first line, as code cuts it
  abbrev first : List ℕ
  first = take (x + 2 - 0) f

  -- the steps taken back
  abbrev body : List ℕ
  body = back_texts h f steps before n

  -- what follows the body, as code cuts it
  abbrev rest : List ℕ
  rest = take (length f - e) (drop e f)

  -- how long the first and the last are
  abbrev frame : ℕ
  frame = x + 2 + (length f - e)

  -- the undo
  abbrev text : List ℕ
  text = undo_text h f steps before n e

  parts : first ++ (body ++ rest) ≡ text
  unfolding undo_text
  parts =
      let a : x + 2 - 0 ≡ line_end f 0 + 2 = omega arith in
      rw (a, take_all (length f - e) (drop e f) (omega (arith, length-drop e f)))

  first_long : length first ≡ x + 2
  first_long = length-take-le (x + 2 - 0) f (omega (arith, w.opens, w.ends)) ∙ omega arith

  rest_long : length rest ≡ length f - e
  rest_long = length-take-le (length f - e) (drop e f) (omega (arith, length-drop e f)) ∙ omega arith

  whole : length text ≡ frame + length body
  whole = ap length (sym parts) ∙ length-append first (body ++ rest) ∙ omega (arith, length-append body rest, first_long, rest_long)

  -- they alone are longer than the buffer
  pub frame_long_lem : (old : List ℕ) → length old < frame → length old < length text
  frame_long_lem old l = omega (arith, whole)

  module _ (old : List ℕ) (l : frame ≤ length old) where
    -- the steps taken back don't fit it
    pub put_long : length old - frame < length body → length old < length text
    put_long g = omega (arith, whole, l)

    module _ (new : List ℕ) (k : ℕ) (p : k ≡ length first) (u : new ≡ in_front first old) (b : ℕ) (last : List ℕ) (v : Put body (length old - frame) (take (length new - k) (drop k new)) b last) where
      -- the buffer with both
      abbrev mid : List ℕ
      mid = put_mid k (length new - k) new last

      roomy : length text ≤ length old
      roomy = omega (arith, whole, l, v.fits)

      two : k + b ≡ length (first ++ body)
      two = omega (arith, length-append first body, v.size)

      -- they end within the buffer
      pub put_two : k + b ≤ length mid
      put_two =
          omega (
            arith,
            roomy,
            whole,
            first_long,
            v.size,
            front_same (first ++ body) old mid (omega (arith, roomy, whole, first_long, two, v.size)) (front_then first body old new last k p u v.front),
          )

      -- as far as can be counted
      pub put_fits : length old < 2 ^ 64 → Fits w64 (k + b)
      put_fits c = record { fits = omega (arith, roomy, whole, first_long, v.size) }

      -- the last has room
      pub put_rest : length rest ≤ length (take (length mid - (k + b)) (drop (k + b) mid))
      put_rest = last_room first body [] old new last [] k b p u v.size v.front (length rest) (omega (arith, roomy, whole, first_long, rest_long, v.size))

      module _ (j : ℕ) (s : j ≡ length rest) where
        -- all can be counted
        pub put_all_fits : length old < 2 ^ 64 → Fits w64 (k + b + j)
        put_all_fits c = record { fits = omega (arith, roomy, whole, first_long, rest_long, v.size) }

        -- and are the undo
        pub put_done : (end : List ℕ) → end ≡ in_front rest (take (length mid - (k + b)) (drop (k + b) mid))
            → Put text (length old) old (k + b + j) (put_mid (k + b) (length mid - (k + b)) mid end)
        put_done end z = record {
          fits = roomy;
          size = omega (arith, whole, first_long, rest_long, v.size);
          front = front_last first body rest old new last end k b p u v.size v.front z ∙ ap (λ x. in_front x old) parts;
        }
