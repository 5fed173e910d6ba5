-- A call that is written after `issue` is read as that call.
use Rattle.std.proofs.Common.{◌≡◌, ◌∙◌, ℕ, ◌^◌, ◌==◌, ◌&&◌, ◌%◌, not, Bool, true, false, List, [], ◌∷◌, ◌++◌, length, Option, Some, None, ℤ, refl, sym, ap, append_assoc, arith, w64, FitsSigned}
use Rattle.std.specs.Fmt.{decimal, signed_decimal}
use Rattle.std.specs.List.{list_all}
use Rattle.std.specs.Prelude.{codes, if◌then◌else◌, IfSome, option_and_then}
use Rattle.std.specs.Result.{result_ok}
use Rattle.std.proofs.lemmas.Bool.{and_right, and_left}
use Rattle.hex.specs.Hex.{encode_lower}
use Rattle.xa_base.specs.Branch.{xid_of_branch}
use Rattle.xa_base.specs.Call.{call_with, count_in, xid_in}
use Rattle.xa_base.specs.Xid.{Xid, IsXid, text_of}
use Rattle.xa_base.specs.XidText.{is_hex, is_lower_hex}
use Rattle.xa_base.proofs.TextLemmas.{text_parts}
use Rattle.xa_base.specs.declared.branch.Gtrid.{Gtrid}
use Rattle.xa_base.specs.declared.call.Call.{Call}
use Rattle.xa_base.specs.declared.call.Call.TheVariants.{OpenRm, CloseRm, Start, End, Prepare, Commit, Rollback, Forget, Recover}
use Rattle.xa_base.specs.declared.call.CallKind.{CallKind}
use Rattle.xa_base.specs.declared.call.CallKind.TheVariants as kinds
use Rattle.xa_requests.specs.Calls.{branch_call, call_in, flags_in, issue_request, recover_call}
use Rattle.xa_requests.specs.Names.{branch_named, gtrid_named, xid_named}
use Rattle.xa_files.specs.Numbers.{index_of}
use Rattle.xa_requests.specs.ReadBack.{CallsAreReadBack}
use Rattle.xa_requests.specs.Requests.{request_in}
use Rattle.xa_requests.specs.Responses.{call_text, recover_text}
use Rattle.xa_requests.specs.Words.{words_of}
use Rattle.xa_requests.specs.declared.request.Request.TheVariants as requests
use Rattle.xa_files.proofs.NumberLemmas.{index_of-text, signed_of-text, within_fits}
use Rattle.xa_requests.proofs.SpaceLemmas.{decimal_text, four_words, issue_words, last_word, signed_text, spaceless, three_words, two_words, xid_text}
use Rattle.xa_requests.proofs.XidLemmas.{named_if_spelled}

-- ** a branch's identifier is no transaction's name

not_all : (p : ℕ → Bool) (xs : List ℕ) (c : ℕ) (ys : List ℕ) → p c ≡ false → list_all p (xs ++ (c ∷ ys)) ≡ false
not_all p [] c ys h = and_left (p c) (list_all p ys) h
not_all p (x ∷ xs) c ys h = and_right (p x) (list_all p (xs ++ (c ∷ ys))) (not_all p xs c ys h)

no_gtrid : (x : Xid) → gtrid_named (text_of x) ≡ None
unfolding gtrid_named
no_gtrid x =
    let rest = encode_lower x.gtrid ++ (58 ∷ encode_lower x.bqual) in
    let digits : list_all is_lower_hex (text_of x) ≡ false =
    ap (list_all is_lower_hex) (text_parts x) ∙ not_all is_lower_hex (signed_decimal x.format) 58 rest refl in
    let hex : is_hex (text_of x) ≡ false = and_right (length (text_of x) % 2 == 0) (list_all is_lower_hex (text_of x)) digits in
    let no : (length (text_of x) == 32 && is_hex (text_of x)) ≡ false = and_right (length (text_of x) == 32) (is_hex (text_of x)) hex in
    rw no refl

named_back : (thread rm : ℕ) (x : Xid) → IsXid x → branch_named thread rm (text_of x) ≡ Some x
unfolding branch_named
named_back thread rm x is =
    ap (λ (o : Option Gtrid). elim o [
      | Some gtrid ↦ Some (xid_of_branch (record { gtrid = gtrid; thread = thread; rm = rm }))
      | None ↦ xid_named (text_of x)
    ]) (no_gtrid x)
    ∙ named_if_spelled (text_of x) x (is.in_range, refl) ∙ ap result_ok is.faultless

-- ** calls by their words

on_branch : (kind : CallKind) (thread rm : ℕ) (x : Xid) (words : List (List ℕ)) → IsXid x
    → branch_call kind thread rm (text_of x ∷ words) ≡ option_and_then (λ flags. call_with kind (Some x) flags None) (flags_in words)
unfolding branch_call
on_branch kind thread rm x words is =
    ap (option_and_then (λ xid. option_and_then (λ flags. call_with kind (Some xid) flags None) (flags_in words))) (named_back thread rm x is)

by_count : (n : ℤ) (words : List (List ℕ)) → FitsSigned w64 n
    → recover_call (signed_decimal n ∷ words) ≡ option_and_then (λ flags. call_with kinds.Recover None flags (Some n)) (flags_in words)
unfolding recover_call
by_count n words fits =
    ap (option_and_then (λ count. option_and_then (λ flags. call_with kinds.Recover None flags (Some count)) (flags_in words)))
    (signed_of-text (2 ^ 63) (signed_decimal n) n (omega arith) (within_fits n fits) refl)

-- the words of a call on a branch, without a flag and with one
plain_words : (name : List ℕ) (x : Xid) → IsXid x → list_all (λ c. not (c == 32)) name ≡ true
    → words_of (name ++ codes " " ++ text_of x ++ []) ≡ name ∷ text_of x ∷ []
plain_words name x is h = two_words name (text_of x) (spaceless name h) (xid_text x is.in_range)

flag_words : (name flag : List ℕ) (x : Xid) → IsXid x → list_all (λ c. not (c == 32)) name ≡ true → list_all (λ c. not (c == 32)) flag ≡ true
    → words_of (name ++ codes " " ++ text_of x ++ (32 ∷ flag)) ≡ name ∷ text_of x ∷ flag ∷ []
flag_words name flag x is h k = three_words name (text_of x) flag (spaceless name h) (xid_text x is.in_range) (spaceless flag k)

recover_words : (n : ℤ) (start_scan end_scan : Bool) → FitsSigned w64 n
    → words_of (recover_text n start_scan end_scan)
    ≡ codes "xa_recover" ∷ signed_decimal n ∷ ((if start_scan then codes "TMSTARTRSCAN" ∷ [] else []) ++ (if end_scan then codes "TMENDRSCAN" ∷ [] else []))
recover_words n false false fits = two_words (codes "xa_recover") (signed_decimal n) (spaceless (codes "xa_recover") refl) (signed_text n fits)
recover_words n true false fits =
    three_words (codes "xa_recover") (signed_decimal n) (codes "TMSTARTRSCAN") (spaceless (codes "xa_recover") refl) (signed_text n fits)
    (spaceless (codes "TMSTARTRSCAN") refl)
recover_words n false true fits =
    three_words (codes "xa_recover") (signed_decimal n) (codes "TMENDRSCAN") (spaceless (codes "xa_recover") refl) (signed_text n fits)
    (spaceless (codes "TMENDRSCAN") refl)
recover_words n true true fits =
    ap words_of (sym (append_assoc (codes "xa_recover " ++ signed_decimal n) (codes " TMSTARTRSCAN") (codes " TMENDRSCAN")))
    ∙ four_words (codes "xa_recover") (signed_decimal n) (codes "TMSTARTRSCAN") (codes "TMENDRSCAN") (spaceless (codes "xa_recover") refl) (signed_text n fits)
    (spaceless (codes "TMSTARTRSCAN") refl) (spaceless (codes "TMENDRSCAN") refl)

read_call : (thread rm : ℕ) (call : Call Xid) → IfSome (xid_in call) IsXid → IfSome (count_in call) (FitsSigned w64)
    → call_in thread rm (words_of (call_text call)) ≡ Some call
unfolding call_in
read_call thread rm OpenRm hx hn = ap (call_in thread rm) (last_word (codes "xa_open") (spaceless (codes "xa_open") refl))
read_call thread rm CloseRm hx hn = ap (call_in thread rm) (last_word (codes "xa_close") (spaceless (codes "xa_close") refl))
read_call thread rm (Start x true) hx hn =
    ap (call_in thread rm) (flag_words (codes "xa_start") (codes "TMJOIN") x hx refl refl) ∙ on_branch kinds.Start thread rm x (codes "TMJOIN" ∷ []) hx
read_call thread rm (Start x false) hx hn = ap (call_in thread rm) (plain_words (codes "xa_start") x hx refl) ∙ on_branch kinds.Start thread rm x [] hx
read_call thread rm (End x true) hx hn =
    ap (call_in thread rm) (flag_words (codes "xa_end") (codes "TMFAIL") x hx refl refl) ∙ on_branch kinds.End thread rm x (codes "TMFAIL" ∷ []) hx
read_call thread rm (End x false) hx hn =
    ap (call_in thread rm) (flag_words (codes "xa_end") (codes "TMSUCCESS") x hx refl refl) ∙ on_branch kinds.End thread rm x (codes "TMSUCCESS" ∷ []) hx
read_call thread rm (Prepare x) hx hn = ap (call_in thread rm) (plain_words (codes "xa_prepare") x hx refl) ∙ on_branch kinds.Prepare thread rm x [] hx
read_call thread rm (Commit x true) hx hn =
    ap (call_in thread rm) (flag_words (codes "xa_commit") (codes "TMONEPHASE") x hx refl refl)
    ∙ on_branch kinds.Commit thread rm x (codes "TMONEPHASE" ∷ []) hx
read_call thread rm (Commit x false) hx hn = ap (call_in thread rm) (plain_words (codes "xa_commit") x hx refl) ∙ on_branch kinds.Commit thread rm x [] hx
read_call thread rm (Rollback x) hx hn = ap (call_in thread rm) (plain_words (codes "xa_rollback") x hx refl) ∙ on_branch kinds.Rollback thread rm x [] hx
read_call thread rm (Forget x) hx hn = ap (call_in thread rm) (plain_words (codes "xa_forget") x hx refl) ∙ on_branch kinds.Forget thread rm x [] hx
read_call thread rm (Recover n false false) hx hn = ap (call_in thread rm) (recover_words n false false hn) ∙ by_count n [] hn
read_call thread rm (Recover n true false) hx hn =
    ap (call_in thread rm) (recover_words n true false hn) ∙ by_count n (codes "TMSTARTRSCAN" ∷ []) hn
read_call thread rm (Recover n false true) hx hn =
    ap (call_in thread rm) (recover_words n false true hn) ∙ by_count n (codes "TMENDRSCAN" ∷ []) hn
read_call thread rm (Recover n true true) hx hn =
    ap (call_in thread rm) (recover_words n true true hn) ∙ by_count n (codes "TMSTARTRSCAN" ∷ codes "TMENDRSCAN" ∷ []) hn

pub read_back : CallsAreReadBack
unfolding request_in issue_request
read_back thread rm call ht hr hx hn =
    let rest = words_of (call_text call) in
    ap request_in (issue_words (decimal thread) (decimal rm) (call_text call) (decimal_text thread (omega arith)) (decimal_text rm (omega arith)))
    ∙ ap (option_and_then (λ t. option_and_then (λ r. option_and_then (λ c. Some (requests.Issue t r c)) (call_in t r rest)) (index_of (decimal rm))))
    (index_of-text (decimal thread) thread ht refl)
    ∙ ap (option_and_then (λ r. option_and_then (λ c. Some (requests.Issue thread r c)) (call_in thread r rest)))
    (index_of-text (decimal rm) rm hr refl)
    ∙ ap (option_and_then (λ c. Some (requests.Issue thread rm c))) (read_call thread rm call hx hn)
