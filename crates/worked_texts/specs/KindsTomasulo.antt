-- A reduced Tomasulo machine: one source operand, one result bus, any number of registers, stations and words.
use Rattle.std.specs.Prelude.{ℕ, List, [], ◌∷◌, codes, flat_map}
use Rattle.worked_texts.specs.KindsWorked.{Answer, valid}

abbrev pub machine : List ℕ
machine = flat_map (λ line. line) (
    codes "scalarset WORD undefined; scalarset REG undefined; scalarset TAG undefined; module main() { issue, go : boolean; slot, bt : TAG; " ∷
    codes "src, dst, rd : REG; iss, bv : boolean; abstract opa, res : WORD; bw, dout : WORD; ir : array REG of struct { resvd : boolean; tag " ∷
    codes ": TAG; val : WORD; }; st : array TAG of struct { valid, ga : boolean; ta : TAG; va : WORD; }; abstract r : array REG of WORD; " ∷
    codes "abstract aux : array TAG of struct { a, res : WORD; src : REG; }; f : array WORD of WORD; iss := issue & ~st[slot].valid; bv := go " ∷
    codes "& st[bt].valid & st[bt].ga; bw := f[st[bt].va]; dout := ir[rd].val; forall (x in WORD) next(f[x]) := f[x]; forall (k in REG) { " ∷
    codes "init(ir[k].resvd) := 0; default if (bv & ir[k].resvd & ir[k].tag = bt) { next(ir[k].resvd) := 0; next(ir[k].val) := bw; } in if " ∷
    codes "(iss & dst = k) { next(ir[k].resvd) := 1; next(ir[k].tag) := slot; } } forall (i in TAG) { init(st[i].valid) := 0; default { if " ∷
    codes "(bv & bt = i) next(st[i].valid) := 0; if (bv & ~st[i].ga & st[i].ta = bt) { next(st[i].ga) := 1; next(st[i].va) := bw; } } in if " ∷
    codes "(iss & slot = i) { next(st[i].valid) := 1; next(st[i].ga) := ~ir[src].resvd | bv & ir[src].tag = bt; next(st[i].ta) := " ∷
    codes "ir[src].tag; next(st[i].va) := ir[src].resvd ? bw : ir[src].val; } } layer arch : { opa := r[src]; res := f[opa]; forall (k in " ∷
    codes "REG) init(r[k]) := ir[k].val; if (iss) next(r[dst]) := res; forall (i in TAG) if (iss & slot = i) { next(aux[i].a) := opa; " ∷
    codes "next(aux[i].res) := res; next(aux[i].src) := src; } if (~ir[rd].resvd) dout := r[rd]; } layer lem : { forall (i in TAG) if " ∷
    codes "(st[i].valid & st[i].ga) st[i].va := aux[i].a; if (bv) bw := aux[bt].res; forall (k in REG) if (~ir[k].resvd) ir[k].val := r[k]; } " ∷
    codes "forall (k in REG) forall (c in WORD) subcase rd1[k][c] of dout//arch for rd = k, r[rd] = c; using ir.val//lem, r//free, " ∷
    codes "ir.resvd//free prove rd1; forall (k in TAG) forall (i in TAG) forall (j in REG) forall (c in WORD) subcase va1[i][j][c] of " ∷
    codes "st[k].va//lem for st[k].ta = i, aux[k].src = j, aux[k].a = c; using bw//lem, ir.val//lem, res//free, bv//free prove va1; forall (i " ∷
    codes "in TAG) forall (a in WORD) forall (c in WORD) subcase bw1[i][a][c] of bw//lem for bt = i, aux[bt].a = a, aux[bt].res = c; using " ∷
    codes "st.va//lem, opa//free, st.ga//free prove bw1; forall (k in REG) forall (i in TAG) forall (c in WORD) subcase val1[i][c] of " ∷
    codes "ir[k].val//lem for ir[k].tag = i, r[k] = c; using bw//lem, res//free, bv//free prove val1; } " ∷ [])

-- it has no fault of names, size or kinds
abbrev pub rows : List (List ℕ × Answer)
rows = (machine, valid) ∷ []
