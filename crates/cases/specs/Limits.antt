-- The limits of 4,096 body lines and 8,192 records, computed at the state that is reached. tests/cases writes the reference's answers.
use Rattle.std.specs.Prelude.{◌≡◌, refl, List, [], ◌∷◌, ◌++◌, ℕ, zero, suc, ◌*◌}
use Rattle.theory.specs.Step.{Op, ins, upd, del, Change}
use Rattle.theory.specs.Decimal.{dec}
use Rattle.theory.specs.Run.{Out, done, stop}
use Rattle.base.specs.Lists.{pick, same, bytes}
use Rattle.meaning.specs.Lines.{lines_of}
use Rattle.meaning.specs.Kinds.{Kind, street, street_xref}
use Rattle.meaning.specs.Table.{scottish}
use Rattle.meaning.specs.Records.{Rec}
use Rattle.meaning.specs.File.{in_body, read_from}
use Rattle.meaning.specs.Load.{checked}
use Rattle.meaning.specs.Computes.{computed}
use Rattle.meaning.specs.Steps.{run_steps}
use Rattle.meaning.specs.Answers.{number_list}
use Rattle.cases.specs.Cases.{opened}

-- what follows line 4,097, after 4,096 body lines, and the answer
unfoldable pub tails : List (List ℕ × List ℕ)
tails =
    ((bytes "12,\"I\",4097,1,1,1,2001-01-01,2001-01-01,,2001-01-01" ++ ((13 ∷ 10 ∷ []) ++ (bytes "29,\"a\",\"a\",\"a\",\"a\",\"a\",1,\"a\",\"a\",2001-01-01,\"a\",\"a\",2001-01-01,\"ENG\",\"a\"" ++ ((13 ∷ 10 ∷ []) ++ (bytes "99,0,4097,2001-01-01,000000" ++ ((13 ∷ 10 ∷ []))))))), (9 ∷ 4098 ∷ 0 ∷ 0 ∷ 0 ∷ 0 ∷ 0 ∷ []))
    ∷ ((bytes "12" ++ ((13 ∷ 10 ∷ []) ++ (bytes "29,\"a\",\"a\",\"a\",\"a\",\"a\",1,\"a\",\"a\",2001-01-01,\"a\",\"a\",2001-01-01,\"ENG\",\"a\"" ++ ((13 ∷ 10 ∷ []) ++ (bytes "99,0,4097,2001-01-01,000000" ++ ((13 ∷ 10 ∷ []))))))), (9 ∷ 4098 ∷ 0 ∷ 0 ∷ 0 ∷ 0 ∷ 0 ∷ []))
    ∷ ((bytes "11,\"x\"" ++ ((13 ∷ 10 ∷ []))), (9 ∷ 4098 ∷ 0 ∷ 0 ∷ 0 ∷ 0 ∷ 0 ∷ []))
    ∷ ((bytes "12,\"I\",1,1,1,1,2001-01-01,2001-01-01,,2001-01-01" ++ ((13 ∷ 10 ∷ []))), (9 ∷ 4098 ∷ 0 ∷ 0 ∷ 0 ∷ 0 ∷ 0 ∷ []))
    ∷ ((bytes "12,\"Z\",4097,1,1,1,2001-01-01,2001-01-01,,2001-01-01" ++ ((13 ∷ 10 ∷ []) ++ (bytes "rest"))), (9 ∷ 4098 ∷ 0 ∷ 0 ∷ 0 ∷ 0 ∷ 0 ∷ []))
    ∷ ((bytes "12,\"I\",4097,1,1,1,2001-01-01,2001-01-01,2000-12-31,2001-01-01" ++ ((13 ∷ 10 ∷ []))), (9 ∷ 4098 ∷ 0 ∷ 0 ∷ 0 ∷ 0 ∷ 0 ∷ []))
    ∷ ((bytes "24" ++ ((13 ∷ 10 ∷ []))), (9 ∷ 4098 ∷ 0 ∷ 0 ∷ 0 ∷ 0 ∷ 0 ∷ []))
    ∷ ((bytes "13,1" ++ ((13 ∷ 10 ∷ []))), (2 ∷ 4098 ∷ 1 ∷ 0 ∷ 0 ∷ 0 ∷ 0 ∷ []))
    ∷ ((bytes "12,\"I\",4097,1,1,1,2001-01-01,2001-01-01,,2001-01-01"), (1 ∷ 4098 ∷ 0 ∷ 0 ∷ 0 ∷ 0 ∷ 0 ∷ []))
    ∷ ((bytes "10,\"a\",1,2001-01-01,1,2001-01-01,000000,1.0,\"F\"" ++ ((13 ∷ 10 ∷ []))), (3 ∷ 4098 ∷ 0 ∷ 0 ∷ 0 ∷ 0 ∷ 0 ∷ []))
    ∷ ((bytes "29,\"a\",\"a\",\"a\",\"a\",\"a\",1,\"a\",\"a\",2001-01-01,\"a\",\"a\",2001-01-01,\"ENG\",\"a\"" ++ ((13 ∷ 10 ∷ []) ++ (bytes "99,0,4095,2001-01-01,000000" ++ ((13 ∷ 10 ∷ []))))), (8 ∷ 4099 ∷ 3 ∷ 0 ∷ 0 ∷ 0 ∷ 0 ∷ []))
    ∷ ((bytes "29,\"a\",\"a\",\"a\",\"a\",\"a\",1,\"a\",\"a\",2001-01-01,\"a\",\"a\",2001-01-01,\"ENG\",\"a\"" ++ ((13 ∷ 10 ∷ []) ++ (bytes "99,0,4097,2001-01-01,000000" ++ ((13 ∷ 10 ∷ []))))), (8 ∷ 4099 ∷ 3 ∷ 0 ∷ 0 ∷ 0 ∷ 0 ∷ []))
    ∷ ((bytes "29,\"a\",\"a\",\"a\",\"a\",\"a\",1,\"a\",\"a\",2001-01-01,\"a\",\"a\",2001-01-01,\"ENG\",\"a\"" ++ ((13 ∷ 10 ∷ []) ++ (bytes "99,0,1,2001-01-01,000000" ++ ((13 ∷ 10 ∷ []))))), (8 ∷ 4099 ∷ 3 ∷ 0 ∷ 0 ∷ 0 ∷ 0 ∷ []))
    ∷ ((bytes "29,\"a\",\"a\",\"a\",\"a\",\"a\",1,\"a\",\"a\",2001-01-01,\"a\",\"a\",2001-01-01,\"ENG\",\"a\"" ++ ((13 ∷ 10 ∷ []) ++ (bytes "99,0,0,2001-01-01,000000" ++ ((13 ∷ 10 ∷ []))))), (8 ∷ 4099 ∷ 3 ∷ 0 ∷ 0 ∷ 0 ∷ 0 ∷ []))
    ∷ ((bytes "29,\"a\",\"a\",\"a\",\"a\",\"a\",1,\"a\",\"a\",2001-01-01,\"a\",\"a\",2001-01-01,\"ENG\",\"a\"" ++ ((13 ∷ 10 ∷ []) ++ (bytes "12,\"I\",4097,1,1,1,2001-01-01,2001-01-01,,2001-01-01" ++ ((13 ∷ 10 ∷ []))))), (3 ∷ 4099 ∷ 0 ∷ 0 ∷ 0 ∷ 0 ∷ 0 ∷ []))
    ∷ ((bytes "29,\"a\",\"a\",\"a\",\"a\",\"a\",1,\"a\",\"a\",2001-01-01,\"a\",\"a\",2001-01-01,\"ENG\",\"a\"" ++ ((13 ∷ 10 ∷ []) ++ (bytes "99,0,4096,2001-01-01,000000" ++ ((13 ∷ 10 ∷ []) ++ (bytes "12,\"I\",1,1,1,1,2001-01-01,2001-01-01,,2001-01-01" ++ ((13 ∷ 10 ∷ []))))))), (3 ∷ 4100 ∷ 0 ∷ 0 ∷ 0 ∷ 0 ∷ 0 ∷ []))
    ∷ ((bytes "99,0,4096,2001-01-01,000000" ++ ((13 ∷ 10 ∷ []))), (3 ∷ 4098 ∷ 0 ∷ 0 ∷ 0 ∷ 0 ∷ 0 ∷ []))
    ∷ ([], (3 ∷ 4098 ∷ 0 ∷ 0 ∷ 0 ∷ 0 ∷ 0 ∷ []))
    ∷ ((bytes "29,\"a\",\"a\",\"a\",\"a\",\"a\",1,\"a\",\"a\",2001-01-01,\"a\",\"a\",2001-01-01,\"ENG\",\"a\"" ++ ((13 ∷ 10 ∷ []))), (3 ∷ 4099 ∷ 0 ∷ 0 ∷ 0 ∷ 0 ∷ 0 ∷ []))
    ∷ []

-- the numbers of the tails that do not agree
unfoldable pub tail_misses : ℕ → List (List ℕ × List ℕ) → List ℕ
tail_misses i [] = []
tail_misses i (c ∷ cs) = pick (same (number_list (checked (read_from scottish 4098 in_body 4096 (lines_of c.0)))) c.1) (tail_misses (suc i) cs) (i ∷ tail_misses (suc i) cs)

-- each tail is answered as the reference answered the whole file
pub agreed_tails : tail_misses 0 tails ≡ []
unfolding computed opened tails tail_misses
agreed_tails = refl

-- the street with that number, or its cross reference of type 1 with number 1, as far as steps look at them
unfoldable pub numbered : Kind → ℕ → Rec
numbered k u = record { kind = k; content = dec u ++ bytes ",1,1" }

-- a change to that record
abbrev pub change : Kind → Op → ℕ → Change Rec
change k o u = record { op = o; rec = numbered k u }

-- n streets with the even numbers from 2 * i on
unfoldable pub evens : ℕ → ℕ → List Rec
evens zero i = []
evens (suc n) i = numbered street (2 * i) ∷ evens n (suc i)

-- the code and the line at which a run stops, 0 and 0 where it does not
unfoldable pub stopped : Out (List Rec) → List ℕ
stopped (done st) = 0 ∷ 0 ∷ []
stopped (stop l w) = w ∷ l ∷ []

-- one step on line 2, over 8,192 streets with even numbers
unfoldable pub stops : Change Rec → List ℕ
stops c = stopped (run_steps scottish 9999999 (evens 8192 1) (c ∷ []))

-- a step over the full holding, and the answer: 10 for an insert of a held key, 11 for another step at an absent one, else 16, even where 12 is due
unfoldable pub full : List (Change Rec × List ℕ)
full =
    (change street ins 1, (16 ∷ 2 ∷ []))
    ∷ (change street ins 3, (16 ∷ 2 ∷ []))
    ∷ (change street ins 5, (16 ∷ 2 ∷ []))
    ∷ (change street ins 41, (16 ∷ 2 ∷ []))
    ∷ (change street ins 401, (16 ∷ 2 ∷ []))
    ∷ (change street ins 400, (10 ∷ 2 ∷ []))
    ∷ (change street_xref ins 3, (16 ∷ 2 ∷ []))
    ∷ (change street upd 401, (11 ∷ 2 ∷ []))
    ∷ (change street del 1, (11 ∷ 2 ∷ []))
    ∷ []

-- the numbers of the steps that do not agree
unfoldable pub full_misses : ℕ → List (Change Rec × List ℕ) → List ℕ
full_misses i [] = []
full_misses i (c ∷ cs) = pick (same (stops c.0) c.1) (full_misses (suc i) cs) (i ∷ full_misses (suc i) cs)

-- each step is answered as the reference answered it
pub agreed_full : full_misses 0 full ≡ []
unfolding computed numbered evens stopped stops full full_misses
agreed_full = refl
