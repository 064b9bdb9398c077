-- The laws of counts after a step: a record more with its references counted in, another for the one that stood there, or one less.
use mathlib.Core.Path.{◌≡◌, refl, sym, ◌∙◌}
use mathlib.Core.Bool.{true, false}
use mathlib.Core.Option.{none, some}
use mathlib.Core.List.{List}
use Prim.Native.Nat.{ℕ, ◌+◌, ◌-◌, ◌≤◌, ◌<◌}
use native.Mathlib.Omega.{arith}
use lib.Dec.{T}
use lib.ListN.{length, take}
use Rattle.base.specs.Lists.{all}
use Rattle.theory.proofs.FoldLaws.{length_put, get_all?}
use Rattle.theory.specs.Store.{put, get, Asc}
use Rattle.theory.proofs.StoreLaws.{asc_put}
use Rattle.theory.specs.Rank.{rank}
use Rattle.theory.specs.Refs.{meets}
use Rattle.meaning.specs.Records.{Rec}
use Rattle.meaning.specs.Holding.{most_records}
use Rattle.keys.specs.Numbers.{key_numbers, ref_numbers, numbered}
use Rattle.places.specs.Places.{opened, closed}
use Rattle.places.specs.Counts.{times, refers, tally, by_key, moved, noted_all, Open}
use Rattle.places.proofs.CountLaws.{refs_few, tally_few, tally_put, tally_absent, by_cong, count_all, open_up, open_down, has_all, count_open, count_close, count_same}

module _ (st : List Rec) (n : ℕ) (t : List ℕ) (l : n ≡ length st) (a : Asc numbered st) (m : T (all (meets numbered ref_numbers st) st)) (f : n ≤ most_records) (e : take n t ≡ by_key (tally st) st)
    (x : Rec) (i : ℕ) (r : i ≡ rank numbered (key_numbers x) st) where
  -- the records with x put
  abbrev new : List Rec
  new = put numbered (key_numbers x) (some x) st

  -- and without what stood at its key
  abbrev less : List Rec
  less = put numbered (key_numbers x) none st

  new_asc : Asc numbered new
  new_asc = asc_put numbered (key_numbers x) (some x) st refl a

  -- ---- an insert

  module _ (g : get numbered (key_numbers x) st ≡ none) (c : n < length t) (d : i ≤ n) where
    room_told : take (n + 1) (opened t n i 0) ≡ by_key (tally st) new
    room_told = count_open (tally st) t (key_numbers x) st n i e r x 0 c d g (tally_absent st (key_numbers x) m g)

    room_length : n + 1 ≡ length new
    room_length = omega (arith, rw g at (length_put numbered (key_numbers x) (some x) st))

    -- its references can be counted in
    pub insert_open : Open true new (opened t n i 0) (ref_numbers x)
    insert_open = open_up new new_asc (n + 1) room_length (ref_numbers x) (tally st) (opened t n i 0) room_told (λ k. omega (arith, tally_few st k, refs_few x))

    insert_sum : (k : List ℕ) → moved true (times k (ref_numbers x)) (tally st k) ≡ tally new k
    unfolding moved refers
    insert_sum k = omega (arith, rw g at (tally_put (key_numbers x) k (some x) st))

    -- and then every count is right
    pub insert_told : T (meets numbered ref_numbers new x) → take (n + 1) (noted_all true new (opened t n i 0) (ref_numbers x)) ≡ by_key (tally new) new
    insert_told s =
        count_all new new_asc (n + 1) room_length true (ref_numbers x) (has_all new x s) (tally st) (opened t n i 0) room_told
        ∙ by_cong (λ k. moved true (times k (ref_numbers x)) (tally st k)) (tally new) insert_sum new

  module _ (q : Rec) (g : get numbered (key_numbers x) st ≡ some q) where
    -- how often the others refer to a key
    abbrev others : List ℕ → ℕ
    others k = moved false (times k (ref_numbers q)) (tally st k)

    less_sum : (k : List ℕ) → tally less k + times k (ref_numbers q) ≡ tally st k
    unfolding refers
    less_sum k = omega (arith, rw g at (tally_put (key_numbers x) k none st))

    -- the references of the record that stood there can be counted out
    pub old_open : Open false st t (ref_numbers q)
    old_open = open_down st a n l (ref_numbers q) (tally st) t e (λ k. omega (arith, less_sum k))

    -- they were met
    pub old_met : T (meets numbered ref_numbers st q)
    old_met = rw g at (get_all? numbered (meets numbered ref_numbers st) (key_numbers x) st m)

    old_told : take n (noted_all false st t (ref_numbers q)) ≡ by_key others st
    old_told = count_all st a n l false (ref_numbers q) (has_all st q old_met) (tally st) t e

    -- ---- an update

    other_told : take n (noted_all false st t (ref_numbers q)) ≡ by_key others new
    other_told = old_told ∙ sym (count_same others x q st g)

    same_length : n ≡ length new
    same_length = omega (arith, rw g at (length_put numbered (key_numbers x) (some x) st))

    -- those of the new record can then be counted in
    pub update_open : Open true new (noted_all false st t (ref_numbers q)) (ref_numbers x)
    unfolding moved
    update_open = open_up new new_asc n same_length (ref_numbers x) others (noted_all false st t (ref_numbers q)) other_told (λ k. omega (arith, tally_few st k, refs_few x))

    update_sum : (k : List ℕ) → moved true (times k (ref_numbers x)) (others k) ≡ tally new k
    unfolding moved refers
    update_sum k = omega (arith, less_sum k, rw g at (tally_put (key_numbers x) k (some x) st))

    -- and then every count is right
    pub update_told : T (meets numbered ref_numbers new x) → take n (noted_all true new (noted_all false st t (ref_numbers q)) (ref_numbers x)) ≡ by_key (tally new) new
    update_told s =
        count_all new new_asc n same_length true (ref_numbers x) (has_all new x s) others (noted_all false st t (ref_numbers q)) other_told
        ∙ by_cong (λ k. moved true (times k (ref_numbers x)) (others k)) (tally new) update_sum new

    -- ---- a delete

    delete_sum : (k : List ℕ) → others k ≡ tally less k
    unfolding moved
    delete_sum k = omega (arith, less_sum k)

    -- closed up over its own, every count is right
    pub delete_told : n ≤ length (noted_all false st t (ref_numbers q)) → i < n → take (n - 1) (closed (noted_all false st t (ref_numbers q)) n i) ≡ by_key (tally less) less
    delete_told c d = count_close others (noted_all false st t (ref_numbers q)) (key_numbers x) st n i old_told r q c d g ∙ by_cong others (tally less) delete_sum less
