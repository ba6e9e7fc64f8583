-- Bytes that are moved within a list, by blocks: from the last block to the first, or from the first to the last.
use Rattle.wtf8.proofs.Common.{◌≡◌, ℕ, ◌+◌, ◌-◌, ◌≤◌, ◌∙◌, List, ◌++◌, length, take, drop, arith, ap, append_assoc}
use Rattle.wtf8.proofs.Common.{take-append-drop}
use Rattle.wtf8.proofs.Common.{◌<◌}
use Rattle.std.proofs.lemmas.List.Edits.{take-paste, drop-paste}
use lib.Seq.{paste}
use Rattle.wtf8.proofs.Common.{rules}
use Rattle.std.proofs.lemmas.List.{places, same_lists}
use Rattle.wtf8.proofs.lemmas.lanes.Entries.{get_of}

-- a paste, as three lists
pub paste_is : (d : List ℕ) (at : ℕ) (s : List ℕ) (n : ℕ) → at ≤ length d → n ≤ length s
    → paste d at s n ≡ take at d ++ (take n s ++ drop (at + n) d)
paste_is d at s n h k = grind (arith, take-append-drop, take-paste, drop-paste, append_assoc)

-- `w` whose bytes from index `at` on, but for the last `by`, are moved to the end
pub record MovedUp (w : List ℕ) (at by : ℕ) (now : List ℕ) : Type 0 where
  pub len : length now ≡ length w
  pub front : take at now ≡ take at w
  pub back : drop (at + by) now ≡ drop at (take (length w - by) w)

-- `n` more bytes are moved up
pub moved_up : {w now new : List ℕ} {end by : ℕ} (at n : ℕ) → MovedUp w end by now → end + by ≤ length w → at + n ≡ end
    → new ≡ take (at + by) now ++ (take n (drop at now) ++ drop ((at + by) + n) now) → MovedUp w at by new
moved_up {w} {now} {new} {end} {by} at n m h e g =
    let size : length new ≡ length w = ap length g ∙ search (rules, places, m.len) in
    record {
      len = size;
      front = same_lists _ _ (search (rules, places)) (λ k d l. grind (arith, places, get_of g k d, get_of m.front k d));
      back = same_lists _ _ (search (rules, places))
          (λ k d l. grind (arith, places, get_of g (at + by + k) d, get_of m.front (at + k) d, get_of m.back (k - n) d));
    }

-- `w` whose bytes from `from` to before `at` are moved down by `by`
pub record MovedDown (w : List ℕ) (from at by : ℕ) (now : List ℕ) : Type 0 where
  pub len : length now ≡ length w
  pub front : take (at - by) now ≡ take (from - by) w ++ take (at - from) (drop from w)
  pub back : drop at now ≡ drop at w

-- `n` more bytes are moved down
pub moved_down : {w now new : List ℕ} {from by : ℕ} (at n : ℕ) → MovedDown w from at by now → by ≤ from → from ≤ at → at + n ≤ length w
    → new ≡ take (at - by) now ++ (take n (drop at now) ++ drop ((at - by) + n) now) → MovedDown w from (at + n) by new
moved_down {w} {now} {new} {from} {by} at n m o p h g =
    let size : length new ≡ length w = ap length g ∙ search (rules, places, m.len) in
    record {
      len = size;
      front = same_lists _ _ (search (rules, places))
          (λ k d l. grind (arith, places, get_of g k d, get_of m.front k d, get_of m.back (k + by - at) d));
      back = same_lists _ _ (search (rules, places)) (λ k d l. grind (arith, places, get_of g (at + n + k) d, get_of m.back (n + k) d));
    }

-- the same with any number `m` of bytes in a block, of which at most `h` end after index `end`
module _ (m h : ℕ) (w p new : List ℕ) (from by end : ℕ) (size : length p ≡ end) (within : end ≤ length w) (near : length w < end + h)
    (less : h ≤ m) (long : from + by + m ≤ length w)
    (stored : new ≡ take (length w - m) (p ++ drop end w) ++ (take m (drop (length w - by - m) w)
    ++ drop (length (take m (drop (length w - by - m) w))) (drop (length w - m) (p ++ drop end w)))) where
  last_stays : take from p ≡ take from (take end w) → take from new ≡ take from w
  last_stays e = same_lists _ _ (search (rules, places, ap length stored)) (λ k d l. grind (arith, places, get_of stored k d, get_of e k d))

  last_moves : drop (from + by) p ≡ drop from (take (end - by) w) → drop (from + by) new ≡ drop from (take (length w - by) w)
  last_moves e = same_lists _ _ (grind (arith, places, ap length stored))
      (λ k d l. grind (arith, places, get_of stored (from + by + k) d, get_of e k d))

-- `w` whose bytes before index `end` are moved up as `p`, and whose last 64 bytes were then moved too
module _ (w p new : List ℕ) (from by end : ℕ) (size : length p ≡ end) (within : end ≤ length w) (near : length w < end + 32)
    (long : from + by + 64 ≤ length w)
    (stored : new ≡ take (length w - 64) (p ++ drop end w) ++ (take 64 (drop (length w - by - 64) w)
    ++ drop (length (take 64 (drop (length w - by - 64) w))) (drop (length w - 64) (p ++ drop end w)))) where
  pub front_stays : take from p ≡ take from (take end w) → take from new ≡ take from w
  front_stays = last_stays 64 32 w p new from by end size within near (omega arith) long stored

  pub back_moves : drop (from + by) p ≡ drop from (take (end - by) w) → drop (from + by) new ≡ drop from (take (length w - by) w)
  back_moves = last_moves 64 32 w p new from by end size within near (omega arith) long stored

-- the same with any number of bytes in a block
first_moved : (m h : ℕ) (w q v z new : List ℕ) (from by begin : ℕ) → v ≡ drop begin w → length q ≡ length w - begin → by ≤ from
    → from - by < begin → begin ≤ from - by + h → h ≤ m → from + m ≤ length w
    → take (length v - by) q ≡ take (by - by) v ++ drop by v
    → new ≡ take (from - by) (take begin w ++ (q ++ z)) ++ (take m (drop from w)
    ++ drop (length (take m (drop from w))) (drop (from - by) (take begin w ++ (q ++ z))))
    → take (length w - by) new ≡ take (from - by) w ++ drop from w
first_moved m h w q v z new from by begin same size order after near less long moved stored =
    same_lists _ _ (grind (arith, places, ap length stored))
    (λ k d l. grind (arith, places, get_of stored k d, get_of moved (k - begin) d, get_of same (by + (k - begin)) d))

-- `w` whose bytes from index `begin + by` on are moved down as `q`, and whose 64 bytes from `from` on were then moved too
pub first_stored : (w q v z new : List ℕ) (from by begin : ℕ) → v ≡ drop begin w → length q ≡ length w - begin → by ≤ from
    → from - by < begin → begin ≤ from - by + 32 → from + 64 ≤ length w
    → take (length v - by) q ≡ take (by - by) v ++ drop by v
    → new ≡ take (from - by) (take begin w ++ (q ++ z)) ++ (take 64 (drop from w)
    ++ drop (length (take 64 (drop from w))) (drop (from - by) (take begin w ++ (q ++ z))))
    → take (length w - by) new ≡ take (from - by) w ++ drop from w
first_stored w q v z new from by begin same size order after near long moved stored =
    first_moved 64 32 w q v z new from by begin same size order after near (omega arith) long moved stored
